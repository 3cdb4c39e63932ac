-- The records ahead, and the count of the tabstop. Assumes nothing.
use Rattle.console_tabstop.proofs.Names.{◌≡◌, refl, sym, ap, ◌∙◌, true, false, ◌&&◌, false≢true, List, [], ◌∷◌, ℕ, ◌+◌, ◌≤◌, ◌<◌, arith, leb, ltb}
use Rattle.console_tabstop.proofs.Names.{eqb, length, leb-true, lt-leb, part, when◌then◌else◌, pick, if_true, if_false, and_right, Token, index}
use Rattle.console_tabstop.proofs.Names.{tokens_from, is_start, is_end, Read, Head, Block, Kind, tokens-end, count_short, Terms, term_start, term_end}
use Rattle.console_tabstop.proofs.Names.{term, terms, settles, settled_from, empty_block}
use borrow.Author.Tests.{eq-eqb, lt-ltb, le-ltb, le-leb}
use Rattle.utf8.specs.Utf8.{characters}
use Rattle.records.specs.Records.{is_text}
use Rattle.records.specs.Answers.{token_of}
use Rattle.records.specs.declared.Block.TheVariants as block
use Rattle.records.specs.declared.Kind.TheVariants as kind
use Rattle.console_rules.specs.Console.{gap_ahead}

-- A record that was read comes first

module _ (s : List ℕ) (at : ℕ) (h : Head) (r : Read s at h) (inside : at < length s) where
  pub listed : tokens_from s at ≡ token_of s at h ∷ tokens_from s h.next
  listed = r.listed ∙ if_true _ _ (lt-ltb at (length s) inside)

  pub gap_next : is_end 3 h.kind ≡ false → gap_ahead (tokens_from s at) ≡ gap_ahead (tokens_from s h.next)
  unfolding gap_ahead
  gap_next e = ap gap_ahead listed ∙ if_false _ _ e

  pub gap_here : is_end 3 h.kind ≡ true → gap_ahead (tokens_from s at) ≡ empty_block (tokens_from s h.next)
  unfolding gap_ahead
  gap_here e = ap gap_ahead listed ∙ if_true _ _ e

  pub terms-next : (t : Terms) → terms (tokens_from s h.next) (term h.kind (part s h.start h.next) t) ≡ terms (tokens_from s at) t
  unfolding terms
  terms-next t = sym (ap (λ ts. terms ts t) listed)

  -- the first record that settles the tabstop is this one, or it comes later
  pub settled_here : (n : ℕ) (t : Terms) → settles h.kind t ≡ true → settled_from n (tokens_from s at) t ≡ at
  unfolding settled_from
  settled_here n t e = ap (λ ts. settled_from n ts t) listed ∙ if_true _ _ e

  pub settled-later : (n : ℕ) (t : Terms) → settles h.kind t ≡ false
      → settled_from n (tokens_from s at) t ≡ settled_from n (tokens_from s h.next) (term h.kind (part s h.start h.next) t)
  unfolding settled_from
  settled-later n t e = ap (λ ts. settled_from n ts t) listed ∙ if_false _ _ e

-- the first records that are left, as an iterator gives them
pub first-none : {left : List Token} → left ≡ [] → false ≡ empty_block left
unfolding empty_block
first-none e = sym (ap empty_block e)

pub first-one : {left others : List Token} {t : Token} → left ≡ t ∷ others → others ≡ [] → false ≡ empty_block left
unfolding empty_block
first-one {t = t} e f = sym (ap empty_block (e ∙ ap (λ ts. t ∷ ts) f))

pub first-two : {left others rest : List Token} {t u : Token} → left ≡ t ∷ others → others ≡ u ∷ rest
    → empty_block left ≡ (is_start 7 t.kind && is_end 7 u.kind)
unfolding empty_block
first-two {t = t} e f = ap empty_block (e ∙ ap (λ ts. t ∷ ts) f)

-- past the end there is none
module _ (s : List ℕ) (at : ℕ) (past : length s ≤ at) where
  pub gap_none : gap_ahead (tokens_from s at) ≡ false
  unfolding gap_ahead
  gap_none = ap gap_ahead (tokens-end s at past)

  pub empty-none : empty_block (tokens_from s at) ≡ false
  unfolding empty_block
  empty-none = ap empty_block (tokens-end s at past)

  pub terms-none : (t : Terms) → terms (tokens_from s at) t ≡ t
  unfolding terms
  terms-none t = ap (λ ts. terms ts t) (tokens-end s at past)

  pub settled-none : (n : ℕ) (t : Terms) → settled_from n (tokens_from s at) t ≡ n
  unfolding settled_from
  settled-none n t = ap (λ ts. settled_from n ts t) (tokens-end s at past)

-- The count of the tabstop

-- the end of an ItemTerm, where w is the widest after it
pub end-term : (t : Terms) (w : ℕ) → w ≡ when ltb t.widest t.counted && leb t.counted 24 then t.counted else t.widest
    → ◌≡◌ {A = Terms} (record { widest = w; counting = false; counted = t.counted }) (term_end block.ItemTerm t)
unfolding term_end
end-term t w f = rw f (sym (if_true _ _ (eq-eqb 4 4 refl)))

pub start-term : (t : Terms) → ◌≡◌ {A = Terms} (record { widest = t.widest; counting = true; counted = 0 }) (term_start block.ItemTerm t)
unfolding term_start
start-term t = sym (if_true _ _ (eq-eqb 4 4 refl))

-- whether a count is the widest so far
module _ (w c : ℕ) where
  pub wider : w < c → c ≤ 24 → c ≡ when ltb w c && leb c 24 then c else w
  wider h k = sym (if_true _ _ (rw (lt-ltb w c h, le-leb c 24 k)))

  pub not_wider : c ≤ w → w ≡ when ltb w c && leb c 24 then c else w
  not_wider h = sym (if_false _ _ (rw (le-ltb w c h)))

  pub too_wide : w < c → 24 < c → w ≡ when ltb w c && leb c 24 then c else w
  too_wide h k = sym (if_false _ _ (rw (lt-ltb w c h, lt-leb c 24 k)))

module _ (x : List ℕ) (t : Terms) where
  pub text-counted : (k : Kind) (n : ℕ) → is_text k ≡ true → t.counting ≡ true → n ≡ characters x
      → ◌≡◌ {A = Terms} (record { widest = t.widest; counting = t.counting; counted = t.counted + n }) (term k x t)
  unfolding term
  text-counted (kind.Text st) n h e f = rw (f, if_true (t.counted + characters x) t.counted e)
  text-counted (kind.Start b) n h e f = absurd (false≢true h)
  text-counted (kind.End b) n h e f = absurd (false≢true h)
  text-counted kind.Unknown n h e f = absurd (false≢true h)

  -- text outside a term, and what neither starts nor ends one
  pub term-passed : (k : Kind) → is_start 4 k ≡ false → is_end 4 k ≡ false → (is_text k ≡ true → t.counting ≡ false) → t ≡ term k x t
  unfolding term term_start term_end
  term-passed (kind.Text st) a b h = rw (if_false (t.counted + characters x) t.counted (h refl))
  term-passed (kind.Start b) a e h = sym (if_false _ _ a)
  term-passed (kind.End b) a e h = sym (if_false _ _ e)
  term-passed kind.Unknown a b h = refl

-- How far the count goes in a record: the widest stays at most 24, and no more than the body's bytes are counted.

start_bounds : (b : Block) (t : Terms) → ((term_start b t).widest ≤ t.widest) × ((term_start b t).counted ≤ t.counted)
unfolding term_start
start_bounds b t =
    pick (λ (u : Terms). (u.widest ≤ t.widest) × (u.counted ≤ t.counted)) (eqb (index b) 4) (λ e. (omega arith, omega arith))
    (λ e. (omega arith, omega arith))

end_bounds : (b : Block) (t : Terms) → t.widest ≤ 24 → ((term_end b t).widest ≤ 24) × ((term_end b t).counted ≤ t.counted)
unfolding term_end
end_bounds b t h = pick (λ (u : Terms). (u.widest ≤ 24) × (u.counted ≤ t.counted)) (eqb (index b) 4) (λ e. (widest, omega arith)) (λ e. (h, omega arith))
  where
    widest : (when ltb t.widest t.counted && leb t.counted 24 then t.counted else t.widest) ≤ 24
    widest =
        pick (λ (w : ℕ). w ≤ 24) (ltb t.widest t.counted && leb t.counted 24)
        (λ e. leb-true t.counted 24 (and_right (ltb t.widest t.counted) _ e)) (λ e. h)

pub term_bounds : (k : Kind) (x : List ℕ) (t : Terms) → t.widest ≤ 24 → ((term k x t).widest ≤ 24) × ((term k x t).counted ≤ t.counted + length x)
unfolding term
term_bounds (kind.Text st) x t h = (h, pick (λ (c : ℕ). c ≤ t.counted + length x) t.counting (λ e. omega (arith, count_short x)) (λ e. omega arith))
term_bounds (kind.Start b) x t h = let u = start_bounds b t in (omega (arith, u.0), omega (arith, u.1))
term_bounds (kind.End b) x t h = let u = end_bounds b t h in (u.0, omega (arith, u.1))
term_bounds kind.Unknown x t h = (h, omega arith)
