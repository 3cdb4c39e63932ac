-- What holds of every document that is given. Assumes nothing.
use Rattle.notes_rules.proofs.Names.{ℕ, ◌≤◌, ◌≡◌, sym, ap, ◌∙◌, subst, List, [], length, gives, and_right, Valid, printing, tokens, printing_order}
use Rattle.notes_rules.proofs.Names.{short, check, document, fit, taken_in, without, deepest, leb, ltb, leb-true, utf8, Faithful}
use Rattle.base.proofs.Results.{bind_gives, if_gives, else_gives, gives_same}
use Rattle.notes_rules.proofs.Accepted.{document_accepted}
use Rattle.notes_rules.proofs.Printed.{document-prints}
use Rattle.notes_rules.proofs.Depth.{document_shallow}

taken_given : (room : ℕ) (s d : List ℕ) → taken_in room s ≡ gives d → (d ≡ document s) × Valid s × (length (document s) ≤ 32768)
unfolding taken_in fit short
taken_given room s d e =
    let f = bind_gives (short s) _ d e in
    let q : s ≡ f.0 = gives_same (else_gives (ltb 32768 (length s)) (gives s) 1 0 f.0 f.1).1 in
    let g = if_gives (utf8 f.0) (fit room (document f.0)) 19 0 d f.2 in
    let h = if_gives _ (gives (document f.0)) 13 0 d g.1 in (
      sym (gives_same h.1) ∙ ap document (sym q),
      ap utf8 q ∙ g.0,
      subst (λ (x : List ℕ). length (document x) ≤ 32768) (sym q)
          (leb-true (length (document f.0)) 32768 (and_right (leb (length (document f.0)) room) _ h.0)),
    )

-- every document that is given
pub taken_faithful : (room : ℕ) (s : List ℕ) → Faithful s (taken_in room s)
taken_faithful room s = record {
  accepted = λ d e. let g = taken_given room s d e in subst (λ (x : List ℕ). check x ≡ gives []) (sym g.0) (document_accepted s g.1 g.2);
  prints =
      λ d e. let g = taken_given room s d e in subst (λ (x : List ℕ). printing_order x ≡ printing (without s)) (sym g.0)
      (document-prints s g.1 g.2);
  shallow = λ d e. let g = taken_given room s d e in subst (λ (x : List ℕ). deepest 0 (tokens 0 0 x) ≤ 1) (sym g.0) (document_shallow s g.2);
}
