-- Pieces that are pushed one after another, as what stands in a room. Assumes nothing.
use Rattle.roff_escape.proofs.Names.{ℕ, ◌≡◌, refl, sym, ap, ◌∙◌, Bool, true, false, not, List, [], ◌∷◌, ◌++◌, when◌then◌else◌}
use denote.Enum.Bare.{sameb}
use Rattle.roff_escape.specs.contracts.escape.Escape.{the_type}
use Rattle.roff_escape.proofs.Names.{pick, encode, bytes, Escape, unescaped_at_newline, spaces, special, special_no_newline}
use Rattle.roff_escape.proofs.Names.{unescaped, escape, line_start, at_newline}
use Rattle.roff_escape.proofs.Names.{Piece, piece, line_end, line_here, escape_all, line_after, font_escape, Laid, Composed, escaped, with_pieces}
use Rattle.roff_escape.proofs.Names.{roff_of, pushed, with_escaped, with_line, composed, Lent, with_bytes, with_bytes_twice, with_none, ap₂}
use Rattle.std.specs.Borrow.{GName}
use Rattle.roff_escape.specs.declared.roff.Roff.{Roff}
use Rattle.roff_escape.specs.declared.roff.Font.{Font}
use Rattle.roff_escape.specs.declared.roff.Font.TheVariants as font
use Rattle.roff_escape.proofs.Escaping.{laid_same, escaped-none, escaped_then}
use Rattle.roff_escape.proofs.Buffer.{all_append, after-append, all_one, after_one}

-- The line end before a piece

-- a mode is UnescapedAtNewline, or it is another
pub newline_asked : (mode : Escape) (other : Bool) → other ≡ not (sameb the_type mode unescaped_at_newline) → at_newline mode ≡ not other
newline_asked unescaped_at_newline other e = ap not (sym e)
newline_asked spaces other e = ap not (sym e)
newline_asked special other e = ap not (sym e)
newline_asked special_no_newline other e = ap not (sym e)
newline_asked unescaped other e = ap not (sym e)

module _ (mode : Escape) (start : Bool) where
  pub no-line_fresh : start ≡ true → line_end mode start ≡ []
  unfolding line_end when◌then◌else◌
  no-line_fresh e = rw e

  pub here_fresh : start ≡ true → start ≡ line_here mode start
  unfolding line_here when◌then◌else◌
  here_fresh e = rw e

  pub no-line_unasked : at_newline mode ≡ false → line_end mode start ≡ []
  unfolding line_end when◌then◌else◌
  no-line_unasked f = go start refl
    where
      go : (b : Bool) → start ≡ b → line_end mode start ≡ []
      go true e = rw e
      go false e = rw (e, f)

  pub here_unasked : at_newline mode ≡ false → start ≡ line_here mode start
  unfolding line_here when◌then◌else◌
  here_unasked f = go start refl
    where
      go : (b : Bool) → start ≡ b → start ≡ line_here mode start
      go true e = rw e
      go false e = rw (e, f)

  pub line_asked : start ≡ false → at_newline mode ≡ true → line_end mode start ≡ 0x0A ∷ []
  unfolding line_end when◌then◌else◌ bytes encode
  line_asked e f = rw (e, f)

  pub here_asked : start ≡ false → at_newline mode ≡ true → true ≡ line_here mode start
  unfolding line_here when◌then◌else◌
  here_asked e f = rw (e, f)

-- One piece

module _ (mode : Escape) (x : List ℕ) where
  -- the line end, and then its bytes
  pub piece_made : (p q r : Laid) → q.text ≡ with_bytes (line_end mode p.fresh) p.text → q.fresh ≡ line_here mode p.fresh → r ≡ escaped mode x q
      → r ≡ with_pieces (piece mode x ∷ []) p
  piece_made p q r e f w =
      w ∙ laid_same
      (ap₂ (λ (t : Lent) (b : Bool). with_bytes (escape mode b x) t) e f
      ∙ with_bytes_twice p.text (line_end mode p.fresh) (escape mode (line_here mode p.fresh) x)
      ∙ ap (λ (y : List ℕ). with_bytes y p.text) (sym (all_one mode x p.fresh)))
      (ap (λ (b : Bool). line_start mode b x) f ∙ sym (after_one mode x p.fresh))

  -- its bytes alone, in a mode that asks for no line end
  pub piece-put : at_newline mode ≡ false → (p : Laid) → escaped mode x p ≡ with_pieces (piece mode x ∷ []) p
  piece-put a p =
      laid_same
      (ap (λ (y : List ℕ). with_bytes y p.text)
      (sym (all_one mode x p.fresh
      ∙ ap₂ (λ (y : List ℕ) (b : Bool). y ++ escape mode b x) (no-line_unasked mode p.fresh a) (sym (here_unasked mode p.fresh a)))))
      (sym (after_one mode x p.fresh ∙ ap (λ (b : Bool). line_start mode b x) (sym (here_unasked mode p.fresh a))))

-- the mode of text asks for none
pub text_unasked : (strip : Bool) → at_newline (when strip then special_no_newline else special) ≡ false
text_unasked strip = pick (λ m. at_newline m ≡ false) strip (λ _. refl) (λ _. refl)

-- Some pieces

-- the payload is what changes
pub payload_same : {p q : Laid} (n : GName) (strip : Bool) → p ≡ q → composed n p strip ≡ composed n q strip
payload_same n strip e = ap (λ (p : Laid). composed n p strip) e

pub pushed_none : (m : Roff) → roff_of m ≡ pushed [] (roff_of m)
unfolding escape_all line_after
pushed_none m =
    let t = m.text.now in
    payload_same m.text.ghost_name m.strip (laid_same (sym (with_none t.room.ghost_name t.room.now t.len)) refl)

pub pushed_twice : (m : Composed) (ps qs : List Piece) → pushed qs (pushed ps m) ≡ pushed (ps ++ qs) m
pushed_twice m ps qs =
    let p = m.payload in
    payload_same m.loan m.strip
    (laid_same
    (with_bytes_twice p.text (escape_all p.fresh ps) (escape_all (line_after p.fresh ps) qs)
    ∙ ap (λ (y : List ℕ). with_bytes y p.text) (sym (all_append p.fresh ps qs)))
    (sym (after-append p.fresh ps qs)))

-- some, and then some others, where the first's end is the second's start
pub pushed_then : (m n r : Composed) (ps qs : List Piece) → n ≡ pushed ps m → r ≡ pushed qs n → r ≡ pushed (ps ++ qs) m
pushed_then m n r ps qs e w = w ∙ ap (λ (v : Composed). pushed qs v) e ∙ pushed_twice m ps qs

-- the same pieces
pub pushed-same : (m r : Composed) (ps qs : List Piece) → qs ≡ ps → r ≡ pushed ps m → r ≡ pushed qs m
pushed-same m r ps qs e w = w ∙ ap (λ (x : List Piece). pushed x m) (sym e)

module _ (f : Font) where
  pub font_roman : f ≡ font.Roman → font_escape f ≡ 0x5C ∷ 0x66 ∷ 0x52 ∷ []
  unfolding font_escape bytes encode when◌then◌else◌
  font_roman e = rw e

  pub font_bold : f ≡ font.Bold → font_escape f ≡ 0x5C ∷ 0x66 ∷ 0x42 ∷ []
  unfolding font_escape bytes encode when◌then◌else◌
  font_bold e = rw e

  pub font_italic : f ≡ font.Italic → font_escape f ≡ 0x5C ∷ 0x66 ∷ 0x49 ∷ []
  unfolding font_escape bytes encode when◌then◌else◌
  font_italic e = rw e

-- a line end, and then the bytes of a piece
pub pushed_made : (mode : Escape) (x : List ℕ) (m n r : Composed) → n ≡ with_line mode m → r ≡ with_escaped mode x n → r ≡ pushed (piece mode x ∷ []) m
pushed_made mode x m n r e w =
    w ∙ ap (λ (v : Composed). with_escaped mode x v) e
    ∙ payload_same m.loan m.strip (piece_made mode x m.payload (with_line mode m).payload (escaped mode x (with_line mode m).payload) refl refl refl)

-- Bytes in a mode

module _ (mode : Escape) where
  -- nothing is left to go out
  pub left-none : (m : Roff) (x : List ℕ) → x ≡ [] → with_escaped mode x (roff_of m) ≡ roff_of m
  left-none m x e = payload_same m.text.ghost_name m.strip (escaped-none mode m.text.now m.fresh x e)

  -- some bytes, and then some others
  pub then-left : (v : Composed) (a b x : List ℕ) → x ≡ a ++ b → with_escaped mode b (with_escaped mode a v) ≡ with_escaped mode x v
  then-left v a b x e = payload_same v.loan v.strip (escaped_then mode v.payload a b x e)

  -- the first part of what is left went out
  pub left_more : (v w r : Composed) (a b x y : List ℕ) → w ≡ with_escaped mode a v → x ≡ a ++ b
      → with_escaped mode x v ≡ with_escaped mode y r → with_escaped mode b w ≡ with_escaped mode y r
  left_more v w r a b x y e f s = ap (λ (u : Composed). with_escaped mode b u) e ∙ then-left v a b x f ∙ s
