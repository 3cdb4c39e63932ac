-- The shape as runs from one want to another: 02's contents are the runs that end where a block may end. Assumes nothing.
use Rattle.shape.proofs.Names.{◌≡◌, refl, sym, subst, true, false≢true, List, [], ◌∷◌, Style, Block, Kind, around, Content, Holds, Want, parts, pairs}
use Rattle.shape.proofs.Names.{inlines, body, texts, closes}
use Rattle.records.specs.declared.Block.TheVariants as block
use Rattle.records.specs.declared.Kind.TheVariants as kind
use Rattle.shape.specs.Shape as shape
use Rattle.shape.proofs.Blocks.{Fits, part, list, term, its_body, wrap}

pub data Run : Want → List Kind → Want → Type 0 where
  done : {w : Want} → Run w [] w
  text : {w v : Want} {st : Style} {r : List Kind} → texts w ≡ true → Run w r v → Run w (kind.Text st ∷ r) v
  wrapped : {w v u v' w' : Want} {b : Block} {x r : List Kind} → Fits w b v u → Run v x v' → closes v' ≡ true → Run u r w' → Run w (around b x r) w'

abbrev pub want : Content → Want
want shape.parts = parts
want shape.pairs = pairs
want shape.inlines = inlines

ends : (c : Content) → closes (want c) ≡ true
ends shape.parts = refl
ends shape.pairs = refl
ends shape.inlines = refl

pub holds_run : {c : Content} {x : List Kind} → Holds c x → Run (want c) x (want c)
holds_run shape.nothing = done
holds_run (shape.text-part h) = text refl (holds_run h)
holds_run (shape.list-part h k) = wrapped list (holds_run h) refl (holds_run k)
holds_run (shape.block-part e h k) = wrapped (part e) (holds_run h) refl (holds_run k)
holds_run (shape.pair h k l) = wrapped term (holds_run h) refl (wrapped its_body (holds_run k) refl (holds_run l))
holds_run (shape.text-inline h) = text refl (holds_run h)
holds_run (shape.block-inline e h k) = wrapped (wrap e) (holds_run h) refl (holds_run k)

-- a body that is due, and the pairs after it
pub record Due (x : List Kind) : Type 0 where
  pub content : List Kind
  pub later : List Kind
  pub listed : x ≡ around block.ItemBody content later
  pub first : Holds shape.parts content
  pub others : Holds shape.pairs later

abbrev pub Held : Want → List Kind → Type 0
Held parts x = Holds shape.parts x
Held pairs x = Holds shape.pairs x
Held inlines x = Holds shape.inlines x
Held body x = Due x

held_nil : (w : Want) → closes w ≡ true → Held w []
held_nil parts e = shape.nothing
held_nil pairs e = shape.nothing
held_nil inlines e = shape.nothing
held_nil body e = absurd (false≢true e)

held_text : (w : Want) (st : Style) (r : List Kind) → texts w ≡ true → Held w r → Held w (kind.Text st ∷ r)
held_text parts st r e h = shape.text-part h
held_text pairs st r e h = absurd (false≢true e)
held_text inlines st r e h = shape.text-inline h
held_text body st r e h = absurd (false≢true e)

held_block : {w v u : Want} {b : Block} (x r : List Kind) → Fits w b v u → Held v x → Held u r → Held w (around b x r)
held_block x r (part e) h k = shape.block-part e h k
held_block x r list h k = shape.list-part h k
held_block x r term h k = subst (λ (y : List Kind). Holds shape.pairs (around block.ItemTerm x y)) (sym k.listed) (shape.pair h k.first k.others)
held_block x r its_body h k = record { content = x; later = r; listed = refl; first = h; others = k }
held_block x r (wrap e) h k = shape.block-inline e h k

pub run_held : {w w' : Want} {x : List Kind} → Run w x w' → closes w' ≡ true → Held w x
run_held {w} done c = held_nil w c
run_held {w} (text {st = st} {r = r} e h) c = held_text w st r e (run_held h c)
run_held (wrapped {x = x} {r = r} f h e k) c = held_block x r f (run_held h e) (run_held k c)
