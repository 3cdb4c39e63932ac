-- The merged list as a document: it is such a list, accepted by refusals 1 to 8, and its printing order is that of its items one after
-- another. Assumes nothing.
use Rattle.merge_rules.proofs.Names.{ℕ, ◌+◌, ◌≤◌, ◌≡◌, refl, sym, ap, ap₂, ◌∙◌, List, [], ◌∷◌, ◌++◌, append_assoc, append-nil, leb, length}
use Rattle.merge_rules.proofs.Names.{length-append, arith, le-ltb, leb-true, when◌then◌else◌, gives, ◌>>=◌, pushed, and_right, length-pushed}
use Rattle.merge_rules.proofs.Names.{bind_gives, if_gives, gives_same, index, little, blocks, kind_of, size, tokens, token_at, adds, order}
use Rattle.merge_rules.proofs.Names.{printing_order, opens, reads, open_blocks, short, closed, check, little_bytes, stored, start, end, around, Block}
use Rattle.merge_rules.proofs.Names.{check-gives, fit, around-given, Item, records, all_records, list_of, Proper, Each, Lists, merged, printed}
use Rattle.records.specs.declared.Block.TheVariants as block
use Rattle.buffer.proofs.Records.{reads-opening, reads_before, reads-start}
use Rattle.merge_rules.specs.Merge as merge
use Rattle.merge_rules.proofs.Whole.{tokens_append, order-anywhere, order-append, reads_shift, passed, around_alone, opens-gives}
use Rattle.merge_rules.proofs.Merged.{merged_each}

-- the blocks that are open in a list
abbrev pub within : List ℕ
within = pushed (index block.DefinitionList) []

-- in a list an item's records are accepted, wherever they stand, and leave nothing more open
abbrev pub Passes : Item → Type 0
Passes i = (p : ℕ) → reads p 0 within (records i) ≡ gives within

few_within : (b : Block) → length (pushed (index b) within) ≤ 32
few_within b = omega (arith, length-pushed (index b) within, length-pushed (index block.DefinitionList) [])

-- a block in a list, whose content was accepted at some place
block_passes : (b : Block) (x : List ℕ) (q : ℕ) → reads q 0 (pushed (index b) within) x ≡ gives (pushed (index b) within) → (p : ℕ)
    → reads p 0 within (around b x) ≡ gives within
block_passes b x q e p =
    around-given p b x within (omega (arith, length-pushed (index block.DefinitionList) []))
    (reads_shift x q (p + 6) 0 (pushed (index b) within) (pushed (index b) within) (few_within b) e)

-- the items of a list that was accepted, and what stands after them
pub record Accepts (p : ℕ) (is : List Item) (w left : List ℕ) : Type 0 where
  pub items : Each Passes is
  pub after : reads (p + length (all_records is)) 0 within w ≡ gives left

pub items_pass : (is : List Item) (p : ℕ) (w left : List ℕ) → Each Proper is → reads p 0 within (all_records is ++ w) ≡ gives left → Accepts p is w left
unfolding all_records records
items_pass [] p w left h e = record { items = merge.none; after = ap (λ (k : ℕ). reads k 0 within w) (omega arith) ∙ e }
items_pass (i ∷ is) p w left (merge.also h k) e = of (items_pass is (p + length (records i)) w left k)
  where
    T : List ℕ
    T = around block.ItemTerm i.term

    B : List ℕ
    B = around block.ItemBody i.body

    of : (reads (p + length (records i)) 0 within (all_records is ++ w) ≡ gives left → Accepts (p + length (records i)) is w left) → Accepts p (i ∷ is) w left
    of r =
        let a = append_assoc (T ++ B) (all_records is) w ∙ append_assoc T B (all_records is ++ w) in
        let t = passed p block.ItemTerm i.term within (B ++ (all_records is ++ w)) left h.term.whole
        (ap (λ (l : List ℕ). reads p 0 within l) (sym a) ∙ e) in
        let b = passed (p + length T) block.ItemBody i.body within (all_records is ++ w) left h.body.whole t.after in
        let n : p + length T + length B ≡ p + length (T ++ B) = omega (arith, length-append T B) in
        let m = r (ap (λ (k : ℕ). reads k 0 within (all_records is ++ w)) (sym n) ∙ b.after) in
        let l : p + length (T ++ B) + length (all_records is) ≡ p + length (T ++ B ++ all_records is) =
        omega (arith, length-append (T ++ B) (all_records is)) in
        record {
          items = merge.also (λ q. reads_before T B q within within (block_passes block.ItemTerm i.term (p + 6) t.inside q)
              ∙ block_passes block.ItemBody i.body (p + length T + 6) b.inside (q + length T)) m.items;
          after = ap (λ (k : ℕ). reads k 0 within w) (sym l) ∙ m.after;
        }

pub list_passes : (is : List Item) (p : ℕ) → Each Passes is → reads p 0 within (all_records is) ≡ gives within
unfolding all_records reads
list_passes [] p h = refl
list_passes (i ∷ is) p (merge.also h k) = reads_before (records i) (all_records is) p within within (h p) ∙ list_passes is (p + length (records i)) k

-- each item of a list that refusals 1 to 8 accept
pub accepted_items : (is : List Item) → check (list_of is) ≡ gives [] → Each Proper is → Each Passes is
unfolding list_of open_blocks
accepted_items is e h =
    let o = (check-gives (list_of is) [] e).1 in
    let f = bind_gives _ _ []
    (sym (ap (λ (l : List ℕ). reads 0 0 [] l) (around_alone block.DefinitionList (all_records is))
    ∙ reads-opening 0 block.DefinitionList (all_records is ++ end block.DefinitionList) []) ∙ o) in
    let g = opens-gives 0 (index block.DefinitionList) [] f.0 f.1 in
    (items_pass is 6 (end block.DefinitionList) [] h (ap (λ (l : List ℕ). reads 6 0 l (all_records is ++ end block.DefinitionList)) (sym g.1) ∙ f.2)).items

pub check_makes : (s : List ℕ) → length s ≤ 32768 → open_blocks s ≡ gives [] → check s ≡ gives []
unfolding check short closed ◌>>=◌ when◌then◌else◌
check_makes s h e = rw (le-ltb 32768 (length s) h, e)

pub listed_check : (is : List Item) → Each Passes is → length (list_of is) ≤ 32768 → check (list_of is) ≡ gives []
unfolding open_blocks list_of
listed_check is h k = check_makes (list_of is) k (around-given 0 block.DefinitionList (all_records is) [] (omega arith) (list_passes is 6 h))

-- The result

module _ {s t : List ℕ} {is js : List Item} (cs : check s ≡ gives []) (ct : check t ≡ gives []) (ls : Lists s is) (lt : Lists t js) where
  -- it is such a list again
  pub result_lists : Lists (list_of (merged is js)) (merged is js)
  result_lists = record { bytes = refl; proper = merged_each Proper is js ls.proper lt.proper }

  pub result_items : Each Passes (merged is js)
  result_items =
      merged_each Passes is js (accepted_items is (ap check (sym ls.bytes) ∙ cs) ls.proper)
      (accepted_items js (ap check (sym lt.bytes) ∙ ct) lt.proper)

  -- and refusals 1 to 8 accept it
  pub result_check : (room x : List ℕ) → fit room (list_of (merged is js)) ≡ gives x → check x ≡ gives []
  unfolding fit
  result_check room x e =
      let f = if_gives _ _ _ _ x e in
      ap check (sym (gives_same f.1))
      ∙ listed_check (merged is js) result_items
      (leb-true (length (list_of (merged is js))) 32768 (and_right (leb (length (list_of (merged is js))) (length room)) _ f.0))

-- Printing order

printing-append : (a b : List ℕ) (p : ℕ) (stack left : List ℕ) → reads p 0 stack a ≡ gives left
    → printing_order (a ++ b) ≡ printing_order a ++ printing_order b
unfolding printing_order
printing-append a b p stack left e =
    order-anywhere (a ++ b) 0 p 0
    ∙ ap order (tokens_append a b p 0 stack left (omega arith) e)
    ∙ order-append (tokens p 0 a) (tokens (p + length a) 0 b)
    ∙ ap₂ ◌++◌ (order-anywhere a p 0 0) (order-anywhere b (p + length a) 0 0)

pub printed_items : (is : List Item) → Each Passes is → printing_order (all_records is) ≡ printed is
unfolding printed all_records printing_order order tokens
printed_items [] h = refl
printed_items (i ∷ is) (merge.also h k) = printing-append (records i) (all_records is) 0 within within (h 0)
    ∙ ap (λ (l : List ℕ). printing_order (records i) ++ l) (printed_items is k)

starts-plain : printing_order (start block.DefinitionList) ≡ []
unfolding printing_order order tokens token_at adds start stored little_bytes size little kind_of blocks when◌then◌else◌
starts-plain = refl

ends_plain : printing_order (end block.DefinitionList) ≡ []
unfolding printing_order order tokens token_at adds end stored little_bytes size little kind_of blocks when◌then◌else◌
ends_plain = refl

starts : reads 0 0 [] (start block.DefinitionList) ≡ gives within
unfolding opens when◌then◌else◌
starts = reads-start 0 block.DefinitionList []

-- 'Printing characters of the result are those of the kept items in that order'
pub printed-list : (is : List Item) → Each Passes is → printing_order (list_of is) ≡ printed is
unfolding list_of
printed-list is h =
    ap printing_order (around_alone block.DefinitionList (all_records is))
    ∙ printing-append (start block.DefinitionList) (all_records is ++ end block.DefinitionList) 0 [] within starts
    ∙ ap₂ ◌++◌ starts-plain
    (printing-append (all_records is) (end block.DefinitionList) 6 within within (list_passes is 6 h) ∙ ap₂ ◌++◌ (printed_items is h) ends_plain)
    ∙ append-nil (printed is)
