-- Which blocks may stand where, and blocks told apart by their index. Assumes nothing.
use Rattle.shape.proofs.Names.{ℕ, ◌≡◌, refl, sym, ap, subst, ◌∙◌, Bool, true, false, get_or, arith, eqb-true, eq-eqb, ne_eqb, when◌then◌else◌}
use Rattle.shape.proofs.Names.{if_false, blocks, index, Block, same, other, inline, Want, parts, pairs, inlines, body, opens, refuses, inside}
use Rattle.records.specs.declared.Block.TheVariants as block

named : (b : Block) → get_or blocks (index b) block.Header ≡ b
unfolding blocks
named block.Header = refl
named block.Section2 = refl
named block.Section3 = refl
named block.Section4 = refl
named block.ItemTerm = refl
named block.ItemBody = refl
named block.DefinitionList = refl
named block.Block = refl
named block.InlineBlock = refl
named block.TermRef = refl
named block.Meta = refl
named block.Mono = refl

pub same_index : (a b : Block) → index a ≡ index b → a ≡ b
same_index a b e = sym (named a) ∙ ap (λ (i : ℕ). get_or blocks i block.Header) e ∙ named b

pub same-is : (a b : Block) → same a b ≡ true → a ≡ b
same-is a b e = same_index a b (eqb-true (index a) (index b) e)

pub same_self : (b : Block) → same b b ≡ true
same_self b = eq-eqb (index b) (index b) refl

-- a block that may stand somewhere, what it holds, and what may stand after it
pub data Fits : Want → Block → Want → Want → Type 0 where
  part : {b : Block} → other b ≡ true → Fits parts b parts parts
  list : Fits parts block.DefinitionList pairs parts
  term : Fits pairs block.ItemTerm inlines body
  its_body : Fits body block.ItemBody parts pairs
  wrap : {b : Block} → inline b ≡ true → Fits inlines b inlines inlines

pub fits_inside : {w : Want} {b : Block} {v u : Want} → Fits w b v u → inside w b ≡ opens v u
unfolding inside when◌then◌else◌
fits_inside (part e) = rw e
fits_inside list = refl
fits_inside term = refl
fits_inside its_body = refl
fits_inside (wrap e) = rw e

opens-same : {v u v' u' : Want} → opens v u ≡ opens v' u' → (v ≡ v') × (u ≡ u')
opens-same e = (cc, cc)

refuses-opens : {v u : Want} → refuses ≡ opens v u → ⊥
refuses-opens e = let z : ◌≡◌ {A = ℕ} 0 1 = cc in omega arith

-- a choice with one block that may stand
one : {w v u v' u' : Want} (b : Block) (t : Bool) → (t ≡ true → Fits w b v u) → (when t then opens v u else refuses) ≡ opens v' u' → Fits w b v' u'
unfolding when◌then◌else◌
one {w} {v} {u} {v'} {u'} b true f e =
    let p = opens-same e in subst (λ (x : Want). Fits w b x u') p.0 (subst (λ (x : Want). Fits w b v x) p.1 (f refl))
one b false f e = absurd (refuses-opens e)

pub inside_fits : (w : Want) (b : Block) {v u : Want} → inside w b ≡ opens v u → Fits w b v u
unfolding inside when◌then◌else◌
inside_fits parts b {v} {u} e = go (other b) refl e
  where
    go : (t : Bool) → other b ≡ t
        → (when t then opens parts parts else when same b block.DefinitionList then opens pairs parts else refuses) ≡ opens v u → Fits parts b v u
    go true o e = one b true (λ _. part o) e
    go false o e = one b (same b block.DefinitionList) (λ s. subst (λ (x : Block). Fits parts x pairs parts) (sym (same-is b block.DefinitionList s)) list) e
inside_fits pairs b e = one b (same b block.ItemTerm) (λ s. subst (λ (x : Block). Fits pairs x inlines body) (sym (same-is b block.ItemTerm s)) term) e
inside_fits inlines b e = one b (inline b) (λ s. wrap s) e
inside_fits body b e = one b (same b block.ItemBody) (λ s. subst (λ (x : Block). Fits body x parts pairs) (sym (same-is b block.ItemBody s)) its_body) e

-- what is in a block, by the tests of the code

other_block : (a b : Block) → (a ≡ b → ⊥) → same a b ≡ false
other_block a b n = ne_eqb (index a) (index b) (λ e. n (same_index a b e))

module _ (b : Block) where
  pub is_wrap : inline b ≡ true → inside inlines b ≡ opens inlines inlines
  is_wrap e = fits_inside (wrap e)

  pub no_wrap : inline b ≡ false → inside inlines b ≡ refuses
  unfolding inside
  no_wrap e = if_false _ _ e

  pub is-part : other b ≡ true → inside parts b ≡ opens parts parts
  is-part e = fits_inside (part e)

  pub is-list : b ≡ block.DefinitionList → inside parts b ≡ opens pairs parts
  is-list e = rw e (fits_inside list)

  pub no_part : other b ≡ false → (b ≡ block.DefinitionList → ⊥) → inside parts b ≡ refuses
  unfolding inside
  no_part e n = if_false _ _ e ∙ if_false _ _ (other_block b block.DefinitionList n)

  pub no-term : (b ≡ block.ItemTerm → ⊥) → inside pairs b ≡ refuses
  unfolding inside
  no-term n = if_false _ _ (other_block b block.ItemTerm n)

  pub no_body : (b ≡ block.ItemBody → ⊥) → inside body b ≡ refuses
  unfolding inside
  no_body n = if_false _ _ (other_block b block.ItemBody n)
