-- Documents added by a draft. Assumes nothing.
use Rattle.buffer_doc.specs.declared.Form.{Form}
use Rattle.draft.proofs.Names.{ℕ, ◌+◌, ◌-◌, ◌≡◌, refl, sym, ap, ◌∙◌, subst, List, [], ◌++◌, append_assoc, length, take, length-append, arith}
use Rattle.draft.proofs.Names.{gives, ◌>>=◌, bind_gives, stored, start, end, around, kind_closes, reads, open_blocks, check}
use Rattle.draft.proofs.Names.{check-gives, Refusal, add, adds_as, Follows, kept, length-stored, so_far-on, follows_same, Ready, Joins, made_of}
use Rattle.draft.proofs.Names.{fit_gives, Nested, around_leaves, around_front, made_nested, Last, Holds, Calls, Draft, Answer, Ok}
use Rattle.records.specs.declared.Block.TheVariants as block
use Rattle.records.specs.declared.Kind.TheVariants as kind
use Rattle.draft.proofs.Packing.{opens-length}
use Rattle.draft.proofs.Holding.{so_far_held, holds_kept, ends_one, one_accepted, stored_one, stored_is}
use Rattle.draft.proofs.Calls.{built_length}

module _ {d : Draft} {room : List ℕ} (o : Holds d room) (x records : List ℕ) where
  adds_on : adds_as room d.length x records
      ≡ (check x >>= λ _. add room (take d.length room) o.of.stack (around block.InlineBlock records))
  unfolding adds_as
  adds_on = so_far-on (so_far_held o) (λ doc stack. check x >>= λ _. add room doc stack (around block.InlineBlock records))

  -- the draft after it: the last record is the block's end
  of_around : (new : List ℕ) {r : Draft} → (check x ≡ gives [] → Nested records) → adds_as room d.length x records ≡ gives new → r.length ≡ length new
      → r.last ≡ length new - 6 → r.style ≡ 0 → r.blocks ≡ d.blocks → Holds r (kept room (gives new))
  unfolding add around end open_blocks
  of_around new {r} nested e a b c i =
      let s = take d.length room in
      let stack = o.of.stack in
      let f = bind_gives (check x) _ new (sym adds_on ∙ e) in
      let n : Nested records = nested (f.1 ∙ ap gives (check-gives x f.0 f.1).2) in
      let g = bind_gives (reads (length s) 0 stack (around block.InlineBlock records)) _ new f.2 in
      let q = fit_gives room (s ++ around block.InlineBlock records) new g.2 in
      let y = start block.InlineBlock ++ records in
      let same = around_leaves (length s) block.InlineBlock records stack g.0 n g.1 in
      let w : new ≡ (s ++ y) ++ end block.InlineBlock = q.0 ∙ sym (append_assoc s y (end block.InlineBlock)) in
      let front = one_accepted o.of y _ (around_front (length s) block.InlineBlock records stack g.0 n g.1) in
      let l : length new ≡ length (s ++ y) + 6 =
      ap length w ∙ length-append (s ++ y) (end block.InlineBlock) ∙ ap (λ (m : ℕ). length (s ++ y) + m) (length-stored 0x0208 []) in
      holds_kept room (record {
        long = a;
        stack = g.0;
        accepted = ap open_blocks q.0 ∙ one_accepted o.of (around block.InlineBlock records) g.0 g.1;
        opens = rw (i, same) o.of.opens;
        last = subst (λ (t : List ℕ). Last t r.last r.style) (sym w)
            (ends_one (s ++ y) (stored 0x0208 []) _ (kind.End block.InlineBlock) front (stored_one 0x0208 [] (omega arith) (omega arith))
            (stored_is 0x0208 [] (omega arith) (omega arith) ∙ kind_closes block.InlineBlock) (omega arith) c);
      }) (omega (arith, ap length q.0, q.1))

module _ {d : Draft} {room : List ℕ} (x : List ℕ) (by : Form) {new : List ℕ} {b : Answer ℕ Refusal}
    (p : Ready room d.length d.blocks.depth → Joins x (made_of by x) d.length d.blocks.depth room new b) where
  pub doc-said : Holds d room → Follows (adds_as room d.length x (made_of by x)) room new b
  doc-said o =
      let ready : Ready room d.length d.blocks.depth = record { inside = o.inside; small = o.small; shallow = o.of.opens.shallow } in
      follows_same (sym (adds_on o x (made_of by x))) ((p ready).does o.of.stack (opens-length o.of.opens))

  pub doc_given : {n at : ℕ} → b ≡ Ok n → at ≡ n - 6
      → Calls (Holds d room) (adds_as room d.length x (made_of by x)) room new
      (Ok (record { length = n; last = at; style = 0; blocks = d.blocks }))
  doc_given e f =
      built_length e doc-said refl (λ o y g l.
      of_around o x (made_of by x) y (made_nested by x) g l (f ∙ ap (λ (m : ℕ). m - 6) l) refl refl)
