-- Rules one after the other, and rules on what stands on a page. Assumes nothing.
use Rattle.console_chunks.proofs.Names.{◌≡◌, ℕ, List, length, sym, Result, gives, refused, ◌>>=◌, bind_same, seen, Lent, wrote, lent_wrote, page}
use Rattle.console_chunks.proofs.Names.{with_out, with_lay, write, State, Lay, Sheet, sheet, ruled}
use Rattle.std.specs.Borrow.{GName}
use Rattle.std.proofs.Common.{refl, ap, ◌∙◌}
use Rattle.base.proofs.Results.{bind_assoc, refused-gives}
use Rattle.room.specs.Room.{extended}
use Rattle.room.specs.Lent.{lent, with_bytes}

abbrev pub Rule : Type 0
Rule = ℕ → State → Result State

-- another state on the same page
abbrev pub stated : Sheet → Result State → Sheet
stated p s = record p { state = s }

-- what follows from one rule after another
pub ruled_two : (p p₁ p₂ : Sheet) (f g : Rule) → p₁ ≡ ruled f p → p₂ ≡ ruled g p₁ → p₂ ≡ ruled (λ n s. f n s >>= g n) p
ruled_two p p₁ p₂ f g a b = b ∙ ap (ruled g) a ∙ ap (stated p) (sym (bind_assoc p.state (f p.size) (g p.size)))

pub ruled_three : (p p₁ p₂ p₃ : Sheet) (f g h : Rule) → p₁ ≡ ruled f p → p₂ ≡ ruled g p₁ → p₃ ≡ ruled h p₂ → p₃ ≡ ruled (λ n s. f n s >>= λ t. g n t >>= h n) p
ruled_three p p₁ p₂ p₃ f g h a b c =
    ruled_two p p₁ p₃ f (λ n s. g n s >>= h n) a (ruled_two p₁ p₂ p₃ g h b c)

-- two rules that agree on every state
pub ruled_same : (p : Sheet) (f g : State → Result State) → ((s : State) → f s ≡ g s) → stated p (p.state >>= f) ≡ stated p (p.state >>= g)
ruled_same p f g h = ap (stated p) (bind_same p.state f g h)

module _ (v : Lent) (kept : List ℕ) (lay : Lay) where
  -- two rules that agree on what stands on the page
  pub agree : (f g : State → Result State) → ((o : List ℕ) → v.shown ≡ gives o → f (page kept lay o) ≡ g (page kept lay o))
      → stated (sheet v kept lay) ((sheet v kept lay).state >>= f) ≡ stated (sheet v kept lay) ((sheet v kept lay).state >>= g)
  unfolding ◌>>=◌
  agree f g h = ap (stated (sheet v kept lay)) (same v.shown h)
    where
      same : (s : Result (List ℕ)) → ((o : List ℕ) → s ≡ gives o → f (page kept lay o) ≡ g (page kept lay o))
          → (s >>= (λ o. gives (page kept lay o)) >>= f) ≡ (s >>= (λ o. gives (page kept lay o)) >>= g)
      same (gives o) h = h o refl
      same (refused n k) h = refl

  -- a rule that leaves as it is what stands on the page
  pub idle : (f : State → Result State) → ((o : List ℕ) → v.shown ≡ gives o → f (page kept lay o) ≡ gives (page kept lay o))
      → sheet v kept lay ≡ stated (sheet v kept lay) ((sheet v kept lay).state >>= f)
  unfolding ◌>>=◌
  idle f h = ap (stated (sheet v kept lay)) (same v.shown h)
    where
      same : (s : Result (List ℕ)) → ((o : List ℕ) → s ≡ gives o → f (page kept lay o) ≡ gives (page kept lay o))
          → (s >>= λ o. gives (page kept lay o)) ≡ (s >>= (λ o. gives (page kept lay o)) >>= f)
      same (gives o) h = sym (h o refl)
      same (refused n k) h = refl

  -- a text past the room absorbs every rule
  pub over : (f : State → Result State) {n k : ℕ} → v.shown ≡ refused n k → sheet v kept lay ≡ stated (sheet v kept lay) ((sheet v kept lay).state >>= f)
  over f e = idle f (λ o h. absurd (refused-gives (sym e ∙ h)))

  -- the flags changed
  pub changed : (lay' : Lay) (f : Lay → Lay) → lay' ≡ f lay → sheet v kept lay' ≡ ruled (λ n s. gives (with_lay f s)) (sheet v kept lay)
  unfolding ◌>>=◌
  changed lay' f d = rw d (ap (stated (sheet v kept lay)) (same v.shown))
    where
      same : (s : Result (List ℕ)) → (s >>= λ o. gives (page kept (f lay) o)) ≡ (s >>= (λ o. gives (page kept lay o)) >>= λ s. gives (with_lay f s))
      same (gives o) = refl
      same (refused n k) = refl

  module _ (new : Lent) (lay' : Lay) where
    -- a text was written, and the flags changed
    pub written : (rule : ℕ → List ℕ → Result (List ℕ)) (f : Lay → Lay) → lay' ≡ f lay → new ≡ wrote rule v
        → sheet new kept lay' ≡ ruled (λ n s. rule n s.out >>= λ y. gives (with_out y (with_lay f s))) (sheet v kept lay)
    unfolding ◌>>=◌
    written rule f d e = rw (e, d) (ap (stated (sheet v kept lay)) (same v.shown))
      where
        same : (s : Result (List ℕ)) → (s >>= rule v.size >>= λ o. gives (page kept (f lay) o))
            ≡ (s >>= (λ o. gives (page kept lay o)) >>= λ s. rule v.size s.out >>= λ y. gives (with_out y (with_lay f s)))
        same (gives o) = refl
        same (refused n k) = refl

    -- some bytes were
    pub put_there : (x : List ℕ) (f : Lay → Lay) → lay' ≡ f lay → new ≡ with_bytes x v
        → sheet new kept lay' ≡ ruled (λ n s. write n x (with_lay f s)) (sheet v kept lay)
    unfolding write
    put_there x f d e = written (λ n. extended n x) f d e

-- some bytes written into a room, as a text in it
pub room_put : (n : GName) (old new x : List ℕ) (len r : ℕ) → length new ≡ length old
    → seen new r ≡ (seen old len >>= extended (length old) x) → lent n new r ≡ with_bytes x (lent n old len)
room_put n old new x len r s w = lent_wrote (lent n old len) n old new (λ k. extended k x) len r refl s w
