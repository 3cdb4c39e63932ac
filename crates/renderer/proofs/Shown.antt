-- What a room shows, for every renderer: a write of bytes is a write of the page, what is kept and the flags change beside it, and rules
-- that agree on what is shown agree. Assumes nothing.
use Rattle.renderer.proofs.Names.{ℕ, ◌≤◌, ◌<◌, ◌≡◌, sym, ap, ◌∙◌, Bool, true, false, List, length, take, Result, gives, refused, ◌>>=◌, if_true}
use Rattle.renderer.proofs.Names.{if_false, extended, seen, seen_in, seen-out, Page, with_out, page, write, shown, bind_assoc, bind_same}
use Rattle.base.specs.Choice.{when◌then◌else◌}
use Rattle.white.specs.White.{trim}

-- a length within the room, and one past it
module _ {L : Type 0} (room : List ℕ) (len : ℕ) (kept : List ℕ) (lay : L) where
  pub shown_in : len ≤ length room → shown room len kept lay ≡ gives (page kept lay (take len room))
  unfolding shown ◌>>=◌
  shown_in h = rw (seen_in room len h)

  pub shown-out : length room < len → shown room len kept lay ≡ refused 13 0
  unfolding shown ◌>>=◌
  shown-out h = rw (seen-out room len h)

module _ {L A : Type 0} (room : List ℕ) (len : ℕ) (kept : List ℕ) (lay : L) where
  -- what is done with a page, in terms of its text
  pub shown_bind : (f : Page L → Result A) → (shown room len kept lay >>= f) ≡ (seen room len >>= λ x. f (page kept lay x))
  unfolding shown ◌>>=◌
  shown_bind f = sym (bind_assoc (seen room len) (λ x. gives (page kept lay x)) f)

  -- two rules that agree on what is shown: a length past the room is no case of its own
  pub shown_then : (f g : Page L → Result A) → ((x : List ℕ) → f (page kept lay x) ≡ g (page kept lay x))
      → (shown room len kept lay >>= f) ≡ (shown room len kept lay >>= g)
  shown_then f g h = shown_bind f ∙ bind_same (seen room len) _ _ h ∙ sym (shown_bind g)

  -- a test of the flags that passes, or does not
  module _ (t : L → Bool) (f g : Page L → Result A) where
    pub shown-yes : t lay ≡ true → (shown room len kept lay >>= λ s. when t s.lay then f s else g s) ≡ (shown room len kept lay >>= f)
    shown-yes e = shown_then _ f (λ x. if_true _ _ e)

    pub shown-no : t lay ≡ false → (shown room len kept lay >>= λ s. when t s.lay then f s else g s) ≡ (shown room len kept lay >>= g)
    shown-no e = shown_then _ g (λ x. if_false _ _ e)

-- a page that changes, to one with other things kept and other flags
module _ {L : Type 0} (change : Page L → Page L) (kept kept' : List ℕ) (lay lay' : L)
    (changes : (x : List ℕ) → change (page kept lay x) ≡ page kept' lay' x) where
  -- by a rule on the text too, which gives what is seen afterwards
  pub shown_by : (rule : List ℕ → Result (List ℕ)) (old new : List ℕ) (len r : ℕ) → seen new r ≡ (seen old len >>= rule)
      → shown new r kept' lay' ≡ (shown old len kept lay >>= λ s. rule (change s).out >>= λ y. gives (with_out y (change s)))
  unfolding shown ◌>>=◌
  shown_by rule old new len r e =
      ap (λ (t : Result (List ℕ)). t >>= λ x. gives (page kept' lay' x)) e
      ∙ sym (bind_assoc (seen old len) rule (λ x. gives (page kept' lay' x)))
      ∙ bind_same (seen old len) _ _ (λ x. ap (λ (s : Page L). rule s.out >>= λ y. gives (with_out y s)) (sym (changes x)))
      ∙ sym (shown_bind old len kept lay (λ s. rule (change s).out >>= λ y. gives (with_out y (change s))))

  -- by some bytes that went out
  pub shown-write : (limit : ℕ) (old new : List ℕ) (len r : ℕ) (y : List ℕ) → seen new r ≡ (seen old len >>= extended limit y)
      → shown new r kept' lay' ≡ (shown old len kept lay >>= λ s. write limit y (change s))
  unfolding write
  shown-write limit old new len r y e = shown_by (extended limit y) old new len r e

  -- by a trim
  pub shown-trim : (room : List ℕ) (len r : ℕ) → seen room r ≡ (seen room len >>= λ o. gives (trim o))
      → shown room r kept' lay' ≡ (shown room len kept lay >>= λ s. gives (with_out (trim (change s).out) (change s)))
  unfolding ◌>>=◌
  shown-trim room len r e = shown_by (λ o. gives (trim o)) room room len r e

  -- or with its text as it was
  pub shown_changed : (room : List ℕ) (len : ℕ) → shown room len kept' lay' ≡ (shown room len kept lay >>= λ s. gives (change s))
  unfolding shown ◌>>=◌
  shown_changed room len =
      bind_same (seen room len) _ _ (λ x. ap gives (sym (changes x))) ∙ sym (shown_bind room len kept lay (λ s. gives (change s)))
