-- Where a block ends: whole records in house shape leave as many blocks open as were before them, so a block's content ends at the first
-- end record that closes more than it opened. So bytes are the list of at most one run of items. Assumes nothing.
use Rattle.merge_rules.proofs.Names.{ℕ, ◌+◌, ◌-◌, ◌≡◌, refl, sym, ap, ap₂, ◌∙◌, List, [], ◌∷◌, ◌++◌, append_assoc, append_cancel_left, length, take}
use Rattle.merge_rules.proofs.Names.{drop, get_or, length-append, arith, le-leb, when◌then◌else◌, if_true, Token, little, blocks, kind_of, size, token_at}
use Rattle.merge_rules.proofs.Names.{tokens, open_blocks, little_bytes, stored, start, end, around, Block, Kind, length-end, kinds, Item, records}
use Rattle.merge_rules.proofs.Names.{all_records, list_of, Filled, Proper, Each, Lists}
use Rattle.std.specs.Prelude.{Option, Some, None}
use lib.Seq.{take_at, drop_at}
use Rattle.records.specs.declared.Block.TheVariants as block
use Rattle.records.specs.declared.Kind.TheVariants as kind
use Rattle.records.proofs.Tokens.{tokens-some}
use Rattle.shape.specs.Shape.{Content, Holds}
use Rattle.shape.specs.Shape as shape
use Rattle.merge_rules.specs.Merge as merge
use Rattle.merge_rules.specs.InnerEnds.{deeper, on, end_of}
use Rattle.merge_rules.proofs.Whole.{tokens_append, kinds-anywhere, reads_shift, around_then, around_alone}

-- Levels

unfoldable pub level : List Kind → ℕ → Option ℕ
level [] depth = Some depth
level (k ∷ ks) depth = on (deeper k depth) None (level ks)

pub none-some : {n : ℕ} → None ≡ Some n → ⊥
none-some e = let z : ◌≡◌ {A = ℕ} 0 1 = cc in omega arith

pub some_same : {a b : ℕ} → Some a ≡ Some b → a ≡ b
some_same e = cc

level_append : (x y : List Kind) (d e : ℕ) → level x d ≡ Some e → level (x ++ y) d ≡ level y e
unfolding level on
level_append [] y d e h = ap (level y) (some_same h)
level_append (k ∷ x) y d e h = of (λ f. level_append x y f e) (deeper k d) h
  where
    of : ((f : ℕ) → level x f ≡ Some e → level (x ++ y) f ≡ level y e) → (o : Option ℕ) → on o None (level x) ≡ Some e
        → on o None (level (x ++ y)) ≡ level y e
    of r None h = absurd (none-some h)
    of r (Some f) h = r f h

level_block : (b : Block) (x r : List Kind) → ((d : ℕ) → level x d ≡ Some d) → (d : ℕ) → level (shape.around b x r) d ≡ level r d
unfolding level on deeper
level_block b x r h d =
    let n : d + 1 - 1 ≡ d = omega arith in
    level_append x (kind.End b ∷ r) (d + 1) (d + 1) (h (d + 1))
    ∙ ap (λ (o : Option ℕ). on o None (level r)) (if_true _ _ (le-leb 1 (d + 1) (omega arith)) ∙ ap Some n)

pub holds_level : {c : Content} {x : List Kind} → Holds c x → (d : ℕ) → level x d ≡ Some d
unfolding level on deeper
holds_level shape.nothing d = refl
holds_level (shape.text-part h) d = holds_level h d
holds_level (shape.list-part {x = x} {r = r} h k) d = level_block block.DefinitionList x r (λ n. holds_level h n) d ∙ holds_level k d
holds_level (shape.block-part {b = b} {x = x} {r = r} e h k) d = level_block b x r (λ n. holds_level h n) d ∙ holds_level k d
holds_level (shape.pair {x = x} {y = y} {r = r} h k l) d =
    level_block block.ItemTerm x (shape.around block.ItemBody y r) (λ n. holds_level h n) d ∙ level_block block.ItemBody y r (λ n. holds_level k n) d
    ∙ holds_level l d
holds_level (shape.text-inline h) d = holds_level h d
holds_level (shape.block-inline {b = b} {x = x} {r = r} e h k) d = level_block b x r (λ n. holds_level h n) d ∙ holds_level k d

end_level : (ts us : List Token) (d e : ℕ) → level (kinds ts) d ≡ Some e → end_of (ts ++ us) d ≡ end_of us e
unfolding level kinds end_of on
end_level [] us d e h = ap (end_of us) (some_same h)
end_level (t ∷ ts) us d e h = of (λ f. end_level ts us f e) (deeper t.kind d) h
  where
    of : ((f : ℕ) → level (kinds ts) f ≡ Some e → end_of (ts ++ us) f ≡ end_of us e) → (o : Option ℕ) → on o None (level (kinds ts)) ≡ Some e
        → on o t.place (end_of (ts ++ us)) ≡ end_of us e
    of r None h = absurd (none-some h)
    of r (Some f) h = r f h

-- Where the content of a block ends

-- an end record, whatever follows it
pub record Closing (b : Block) : Type 0 where
  pub closes : (q : ℕ) (w : List ℕ) → (token_at q (end b ++ w)).kind ≡ kind.End b

pub term-closing : Closing block.ItemTerm
unfolding token_at end stored little_bytes little kind_of blocks when◌then◌else◌
term-closing = record { closes = λ q w. refl }

pub body-closing : Closing block.ItemBody
unfolding token_at end stored little_bytes little kind_of blocks when◌then◌else◌
body-closing = record { closes = λ q w. refl }

pub list-closing : Closing block.DefinitionList
unfolding token_at end stored little_bytes little kind_of blocks when◌then◌else◌
list-closing = record { closes = λ q w. refl }

module _ {b : Block} (c : Closing b) where
  end-here : (q : ℕ) (w : List ℕ) → end_of (tokens q 0 (end b ++ w)) 0 ≡ q
  unfolding end_of on deeper when◌then◌else◌ token_at
  end-here q w =
      ap (λ (ts : List Token). end_of ts 0) (tokens-some (end b ++ w) q (omega (arith, length-append (end b) w, length-end b)))
      ∙ ap (λ (k : Kind). on (deeper k 0) q (end_of (tokens (q + (6 + size (end b ++ w))) 0 (drop (6 + size (end b ++ w)) (end b ++ w))))) (c.closes q w)

  pub content_ends : {k : Content} {x : List ℕ} (p : ℕ) (w : List ℕ) → Filled k x → end_of (tokens p 0 (x ++ (end b ++ w))) 0 ≡ p + length x
  unfolding open_blocks
  content_ends {x = x} p w f =
      ap (λ (ts : List Token). end_of ts 0) (tokens_append x (end b ++ w) p 0 [] [] (omega arith) (reads_shift x 0 p 0 [] [] (omega arith) f.whole))
      ∙ end_level (tokens p 0 x) (tokens (p + length x) 0 (end b ++ w)) 0 0
      (ap (λ (ks : List Kind). level ks 0) (kinds-anywhere x p 0 0) ∙ holds_level f.shape 0)
      ∙ end-here (p + length x) w

  -- two contents before an end record
  pub one_content : {k : Content} {x y : List ℕ} (w v : List ℕ) → Filled k x → Filled k y → x ++ (end b ++ w) ≡ y ++ (end b ++ v) → (x ≡ y) × (w ≡ v)
  one_content {x = x} {y = y} w v f g e =
      let n : length x ≡ length y = omega (arith, content_ends 0 w f, content_ends 0 v g, ap (λ (l : List ℕ). end_of (tokens 0 0 l) 0) e) in (
        sym (take_at x (end b ++ w) (length y) n) ∙ ap (take (length y)) e ∙ take_at y (end b ++ v) (length y) refl,
        append_cancel_left (end b) w v (sym (drop_at x (end b ++ w) (length y) n) ∙ ap (drop (length y)) e ∙ drop_at y (end b ++ v) (length y) refl),
      )

  -- two blocks
  pub one_block : {k : Content} {x y : List ℕ} (w v : List ℕ) → Filled k x → Filled k y → around b x ++ w ≡ around b y ++ v → (x ≡ y) × (w ≡ v)
  one_block {x = x} {y = y} w v f g e = one_content w v f g (append_cancel_left (start b) _ _ (sym (around_then b x w) ∙ e ∙ around_then b y v))

-- Items

one_item : (i j : Item) (w v : List ℕ) → Proper i → Proper j → records i ++ w ≡ records j ++ v → (i ≡ j) × (w ≡ v)
unfolding records
one_item i j w v p q e =
    let T : Item → List ℕ = λ i. around block.ItemTerm i.term in
    let B : Item → List ℕ = λ i. around block.ItemBody i.body in
    let a = one_block term-closing (B i ++ w) (B j ++ v) p.term q.term (sym (append_assoc (T i) (B i) w) ∙ e ∙ append_assoc (T j) (B j) v) in
    let b = one_block body-closing w v p.body q.body a.1 in
    (λ k. record { term = a.0 k; body = b.0 k }, b.1)

no_item : (j : Item) (r w : List ℕ) → end block.DefinitionList ≡ records j ++ r ++ w → ⊥
unfolding records around end start stored little_bytes
no_item j r w e = let z : ◌≡◌ {A = ℕ} 6 4 = ap (λ (l : List ℕ). get_or l 4 0) e in omega arith

pub one_run : (is js : List Item) → Each Proper is → Each Proper js → all_records is ++ end block.DefinitionList ≡ all_records js ++ end block.DefinitionList
    → is ≡ js
unfolding all_records
one_run [] [] p q e = refl
one_run [] (j ∷ js) p q e = absurd (no_item j (all_records js) (end block.DefinitionList) e)
one_run (i ∷ is) [] p q e = absurd (no_item i (all_records is) (end block.DefinitionList) (sym e))
one_run (i ∷ is) (j ∷ js) (merge.also p ps) (merge.also q qs) e =
    let a = one_item i j _ _ p q (sym (append_assoc (records i) (all_records is) _) ∙ e ∙ append_assoc (records j) (all_records js) _) in
    ap₂ ◌∷◌ a.0 (one_run is js ps qs a.1)

-- a document is the list of one run of items
pub one_list : {s : List ℕ} {is js : List Item} → Lists s is → Lists s js → is ≡ js
unfolding list_of
one_list {is = is} {js = js} l m =
    one_run is js l.proper m.proper
    (append_cancel_left (start block.DefinitionList) _ _
    (sym (around_alone block.DefinitionList (all_records is)) ∙ sym l.bytes ∙ m.bytes ∙ around_alone block.DefinitionList (all_records js)))
