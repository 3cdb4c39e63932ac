-- Two sentences that 01's 'Misreadings of the Rust' bear on, as laws of the rules. Assumes nothing.
use Rattle.console_rules.proofs.Names.{ℕ, ◌≡◌, refl, ap, Bool, true, false, List, [], ◌∷◌, when◌then◌else◌, Result, gives, refused, ◌>>=◌, All, given}
use Rattle.console_rules.proofs.Names.{refusal, extended, Block, with_out, with_lay, write, State, with_gap, outdent, tick, started, ended}
use Rattle.base.specs.Stack.{popped}
use Rattle.records.specs.declared.Block.TheVariants as block
use Rattle.console_rules.specs.Console.{with_blank, with_skip}

-- the text that a rule gives
abbrev text : Result State → Result (List ℕ)
text r = r >>= λ s. gives s.out

module _ (room : ℕ) where
  -- The skip counter 'hides text only': the starts and ends of blocks write, backticks too, whatever it is.

  same_text : (x : List ℕ) (s t : State) → s.out ≡ t.out → text (write room x s) ≡ text (write room x t)
  unfolding write ◌>>=◌
  same_text x s t e = go (extended room x s.out) (extended room x t.out) (ap (extended room x) e)
    where
      go : (q r : Result (List ℕ)) → q ≡ r → text (q >>= λ y. gives (with_out y s)) ≡ text (r >>= λ y. gives (with_out y t))
      go q (gives y) f = rw f
      go q (refused n p) f = rw f

  pub start-shown : (n tab : ℕ) (b : Block) (g : Bool) (s : State) → text (started room tab b g (with_lay (with_skip n) s)) ≡ text (started room tab b g s)
  unfolding started tick when◌then◌else◌ ◌>>=◌
  start-shown n tab block.Header g s = refl
  start-shown n tab block.Section2 g s = refl
  start-shown n tab block.Section3 g s = refl
  start-shown n tab block.Section4 true s = refl
  start-shown n tab block.Section4 false s = refl
  start-shown n tab block.ItemTerm g s = refl
  start-shown n tab block.ItemBody g s = refl
  start-shown n tab block.DefinitionList g s = refl
  start-shown n tab block.Block g s = refl
  start-shown n tab block.InlineBlock g s = refl
  start-shown n tab block.TermRef g s = same_text (0x60 ∷ []) _ _ refl
  start-shown n tab block.Meta g s = refl
  start-shown n tab block.Mono g s = refl

  pub end-shown : (n : ℕ) (b : Block) (s : State) → text (ended room b (with_lay (with_skip n) s)) ≡ text (ended room b s)
  unfolding ended tick when◌then◌else◌ ◌>>=◌
  end-shown n block.Header s = refl
  end-shown n block.Section2 s = refl
  end-shown n block.Section3 s = refl
  end-shown n block.Section4 s = refl
  end-shown n block.ItemTerm s = refl
  end-shown n block.ItemBody s = refl
  end-shown n block.DefinitionList s = refl
  end-shown n block.Block s = go s.lay.passing
    where
      here : Bool → State → State
      here x t = outdent room (when x then with_lay (with_gap false false) t else with_lay with_blank t)

      go : (x : Bool) → text (gives (here x (with_lay (with_skip n) s))) ≡ text (gives (here x s))
      go true = refl
      go false = refl
  end-shown n block.InlineBlock s = refl
  end-shown n block.TermRef s = same_text (0x60 ∷ []) _ _ refl
  end-shown n block.Meta s = refl
  end-shown n block.Mono s = refl

  -- 'every end pops one if there is one', whether its start pushed one or not

  write_keeps : (x : List ℕ) (s : State) → All (λ (t : State). t.kept ≡ s.kept) (write room x s)
  unfolding write ◌>>=◌
  write_keeps x s = go (extended room x s.out)
    where
      go : (r : Result (List ℕ)) → All (λ (t : State). t.kept ≡ s.kept) (r >>= λ y. gives (with_out y s))
      go (gives y) = given refl
      go (refused n p) = refusal

  pub end_pops : (b : Block) (s : State) → All (λ (t : State). t.kept ≡ popped s.kept) (ended room b s)
  unfolding ended tick when◌then◌else◌
  end_pops block.Header s = given refl
  end_pops block.Section2 s = given refl
  end_pops block.Section3 s = given refl
  end_pops block.Section4 s = given refl
  end_pops block.ItemTerm s = given refl
  end_pops block.ItemBody s = given refl
  end_pops block.DefinitionList s = given refl
  end_pops block.Block s = given (go s.lay.passing)
    where
      go : (x : Bool) → popped (when x then with_lay (with_gap false false) s else with_lay with_blank s).kept ≡ popped s.kept
      go true = refl
      go false = refl
  end_pops block.InlineBlock s = given refl
  end_pops block.TermRef s = write_keeps (0x60 ∷ []) _
  end_pops block.Meta s = given refl
  end_pops block.Mono s = given refl
