-- The labelled buffer: pieces escaped as they arise give the bytes that `escape` of the whole buffer gives at the end, and 13 just where these
-- are longer than the room. Assumes nothing.
use Rattle.roff_escape.proofs.Names.{ℕ, ◌+◌, ◌≤◌, ◌<◌, ◌≡◌, refl, sym, ap, ◌∙◌, Bool, true, false, List, [], ◌∷◌, ◌++◌, append_assoc, append-nil}
use Rattle.roff_escape.proofs.Names.{length, length-append, arith, when◌then◌else◌, Result, gives, refused, ◌>>=◌, bind_assoc, bind_end, bind_same}
use Rattle.roff_escape.proofs.Names.{bytes, extended, extended_in, extended-out, extended_twice, Escape, escape, line_start, preamble, Piece, piece}
use Rattle.roff_escape.proofs.Names.{line_end, line_here, escape_all, line_after}
use Rattle.roff_escape.specs.Monoid.{push_str, breaks, rendered, Written, writes, begun, new_line, put, push, pushes}

-- At the end

-- pieces in two parts
pub all_append : (start : Bool) (ps qs : List Piece) → escape_all start (ps ++ qs) ≡ escape_all start ps ++ escape_all (line_after start ps) qs
unfolding escape_all line_after
all_append start [] qs = refl
all_append start (p ∷ ps) qs =
    let here = line_here p.mode start in
    let first = line_end p.mode start ++ escape p.mode here p.text in
    let next = line_start p.mode here p.text in
    ap (λ (y : List ℕ). first ++ y) (all_append next ps qs) ∙ sym (append_assoc first (escape_all next ps) (escape_all (line_after next ps) qs))

pub after-append : (start : Bool) (ps qs : List Piece) → line_after start (ps ++ qs) ≡ line_after (line_after start ps) qs
unfolding line_after
after-append start [] qs = refl
after-append start (p ∷ ps) qs = after-append (line_start p.mode (line_here p.mode start) p.text) ps qs

-- one piece
module _ (mode : Escape) (x : List ℕ) (start : Bool) where
  pub all_one : escape_all start (piece mode x ∷ []) ≡ line_end mode start ++ escape mode (line_here mode start) x
  unfolding escape_all
  all_one = append-nil (line_end mode start ++ escape mode (line_here mode start) x)

  pub after_one : line_after start (piece mode x ∷ []) ≡ line_start mode (line_here mode start) x
  unfolding line_after
  after_one = refl

-- As they arise

module _ (room : ℕ) where
  -- one write, and then another that may look at whether a line starts
  writes_twice : (a : List ℕ) (start : Bool) (b : Bool → List ℕ) (next : Bool → Bool) (w : Written)
      → (writes room a start w >>= λ v. writes room (b v.fresh) (next v.fresh) v) ≡ writes room (a ++ b start) (next start) w
  unfolding writes ◌>>=◌
  writes_twice a start b next w =
      sym (bind_assoc (extended room a w.out) _ _)
      ∙ bind_assoc (extended room a w.out) (extended room (b start)) _
      ∙ ap (λ (r : Result (List ℕ)). r >>= λ y. gives (record { out = y; fresh = next start })) (extended_twice room a (b start) w.out)

  -- a piece is one write
  pub push-writes : (mode : Escape) (x : List ℕ) (w : Written)
      → push room mode x w ≡ writes room (line_end mode w.fresh ++ escape mode (line_here mode w.fresh) x) (line_start mode (line_here mode w.fresh) x) w
  unfolding push new_line put line_end line_here when◌then◌else◌ ◌>>=◌
  push-writes mode x w = go (breaks mode w.fresh) refl
    where
      go : (b : Bool) → breaks mode w.fresh ≡ b
          → push room mode x w
          ≡ writes room (line_end mode w.fresh ++ escape mode (line_here mode w.fresh) x) (line_start mode (line_here mode w.fresh) x) w
      go true e = rw e (writes_twice (bytes "\n") true (λ f. escape mode f x) (λ f. line_start mode f x) w)
      go false e = rw e refl

  -- a write, and then a piece
  writes-push : (a : List ℕ) (start : Bool) (w : Written) (mode : Escape) (x : List ℕ)
      → (writes room a start w >>= push room mode x)
      ≡ writes room (a ++ (line_end mode start ++ escape mode (line_here mode start) x)) (line_start mode (line_here mode start) x) w
  writes-push a start w mode x =
      bind_same (writes room a start w) (push room mode x) _ (push-writes mode x)
      ∙ writes_twice a start (λ f. line_end mode f ++ escape mode (line_here mode f) x) (λ f. line_start mode (line_here mode f) x) w

  -- a write, and then some pieces
  pub writes-pushes : (a : List ℕ) (start : Bool) (w : Written) (ps : List Piece)
      → (writes room a start w >>= pushes room ps) ≡ writes room (a ++ escape_all start ps) (line_after start ps) w
  unfolding pushes escape_all line_after
  writes-pushes a start w [] = bind_end (writes room a start w) ∙ ap (λ (y : List ℕ). writes room y start w) (sym (append-nil a))
  writes-pushes a start w (p ∷ ps) =
      let here = line_here p.mode start in
      let first = line_end p.mode start ++ escape p.mode here p.text in
      let next = line_start p.mode here p.text in
      bind_assoc (writes room a start w) (push room p.mode p.text) (pushes room ps)
      ∙ ap (λ (r : Result Written). r >>= pushes room ps) (writes-push a start w p.mode p.text)
      ∙ writes-pushes (a ++ first) next w ps
      ∙ ap (λ (y : List ℕ). writes room y (line_after next ps) w) (append_assoc a first (escape_all next ps))

  -- pieces in two parts
  pub pushes-append : (ps qs : List Piece) (w : Written) → pushes room (ps ++ qs) w ≡ (pushes room ps w >>= pushes room qs)
  unfolding pushes ◌>>=◌
  pushes-append [] qs w = refl
  pushes-append (p ∷ ps) qs w =
      bind_same (push room p.mode p.text w) _ _ (pushes-append ps qs) ∙ bind_assoc (push room p.mode p.text w) (pushes room ps) (pushes room qs)

  -- some pieces, where what was written before fits
  pub pushes-writes : (ps : List Piece) (w : Written) → length w.out ≤ room
      → pushes room ps w ≡ writes room (escape_all w.fresh ps) (line_after w.fresh ps) w
  unfolding writes ◌>>=◌
  pushes-writes ps w h =
      sym (ap (λ (r : Result Written). r >>= pushes room ps) (ap (λ (r : Result (List ℕ)). r >>= λ y. gives (record { out = y; fresh = w.fresh }))
      (extended_in room [] w.out (omega arith) ∙ ap gives (append-nil w.out))))
      ∙ writes-pushes [] w.fresh w ps

-- The law of the labelled buffer, for any pieces and any room: pushed after the preamble as they arise, they give the whole buffer as it is rendered
-- at the end, or 13 where that is longer than the room; and a line starts after them where `escape` ends at the start of one.
pub buffer_law : (room : ℕ) (ps : List Piece)
    → (begun room >>= pushes room ps) ≡ writes room (rendered ps) (line_after true ps) (record { out = []; fresh = true })
unfolding begun rendered
buffer_law room ps = writes-pushes room preamble true (record { out = []; fresh = true }) ps

-- what is written where it fits
pub buffer_given : (room : ℕ) (ps : List Piece) → length (rendered ps) ≤ room
    → (begun room >>= pushes room ps) ≡ gives (record { out = rendered ps; fresh = line_after true ps })
unfolding writes ◌>>=◌
buffer_given room ps h =
    buffer_law room ps
    ∙ ap (λ (r : Result (List ℕ)). r >>= λ y. gives (record { out = y; fresh = line_after true ps })) (extended_in room (rendered ps) [] (omega arith))

-- the first pieces are written first: what is pushed later takes nothing back
pub rendered_prefix : (ps qs : List Piece) → rendered (ps ++ qs) ≡ rendered ps ++ escape_all (line_after true ps) qs
unfolding rendered
rendered_prefix ps qs =
    ap (λ (y : List ℕ). preamble ++ y) (all_append true ps qs) ∙ sym (append_assoc preamble (escape_all true ps) (escape_all (line_after true ps) qs))

-- so that 13 is met at some piece just where the whole is too long
pub buffer_refused : (room : ℕ) (ps qs : List Piece) → room < length (rendered ps) → (begun room >>= pushes room (ps ++ qs)) ≡ refused 13 0
unfolding writes ◌>>=◌
buffer_refused room ps qs h =
    let k : length (rendered (ps ++ qs)) ≡ length (rendered ps) + length (escape_all (line_after true ps) qs) =
    ap length (rendered_prefix ps qs) ∙ length-append (rendered ps) (escape_all (line_after true ps) qs) in
    buffer_law room (ps ++ qs)
    ∙ ap (λ (r : Result (List ℕ)). r >>= λ y. gives (record { out = y; fresh = line_after true (ps ++ qs) }))
    (extended-out room (rendered (ps ++ qs)) [] (omega arith))

-- `push_str` of one piece more
pub buffer_pushed : (room : ℕ) (ps : List Piece) (mode : Escape) (x : List ℕ)
    → (begun room >>= pushes room ps >>= push room mode x) ≡ (begun room >>= pushes room (push_str mode x ps))
unfolding push_str pushes
buffer_pushed room ps mode x =
    sym (bind_assoc (begun room) (pushes room ps) (push room mode x))
    ∙ bind_same (begun room) _ _
    (λ w. bind_same (pushes room ps w) _ _ (λ v. sym (bind_end (push room mode x v))) ∙ sym (pushes-append room ps (piece mode x ∷ []) w))
