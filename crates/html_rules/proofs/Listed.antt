-- What is left of a walk, for HTML and Markdown: the records that are left and the end, one turn on. Assumes nothing.
use Prim.Native.Nat.{ℕ, ◌<◌}
use mathlib.Core.Path.{◌≡◌, refl, sym, ap, ◌∙◌}
use mathlib.Core.List.{List, [], ◌∷◌}
use lib.ListN.{length}
use Rattle.base.specs.Result.{Result, gives, refused, ◌>>=◌}
use Rattle.base.proofs.Results.{bind_assoc, bind_same}
use Rattle.room.specs.Room.{seen}
use Rattle.records.specs.Records.{Token}
use Rattle.records.specs.declared.Kind.{Kind}
use Rattle.renderer.specs.Walk.{Page, page, shown, Turn, walk}
use Rattle.renderer.proofs.Shown.{shown-out, shown_bind, shown_then, shown_by}
use Rattle.renderer.proofs.Leads.{Leads, leads-on, leads-out, leads-same, leads-shown}
use Rattle.html_rules.proofs.Lifts.{refuses}

module _ {L : Type 0} (turn : Turn (Page L)) (finish : Page L → Result (List ℕ)) where
  -- some records, and the end
  abbrev pub rest : List Token → Page L → Result (List ℕ)
  rest ts s = walk turn ts s >>= finish

  module _ (whole : Result (List ℕ)) (ts : List Token) (room : List ℕ) (len : ℕ) (kept : List ℕ) (lay : L)
      (leads : Leads whole (rest ts) (shown room len kept lay)) where
    -- the length is past the room
    pub rest_out : length room < len → refused 13 0 ≡ whole
    rest_out h = sym (leads-out whole (rest ts) (shown room len kept lay) leads 13 0 (shown-out {L = L} room len kept lay h))

    -- no record is left
    pub rest_end : (text : Result (List ℕ)) (f : List ℕ → Result (List ℕ)) → ts ≡ [] → ((x : List ℕ) → finish (page kept lay x) ≡ f x)
        → text ≡ (seen room len >>= f) → text ≡ whole
    unfolding walk ◌>>=◌
    rest_end text f h e w =
        w ∙ bind_same (seen room len) _ _ (λ x. sym (e x)) ∙ sym (shown_bind room len kept lay finish)
        ∙ leads-same whole (rest ts) (shown room len kept lay) leads finish (λ s. ap (λ (l : List Token). rest l s) h)

    -- a record was read
    module _ {t : Token} {us : List Token} (first : ts ≡ t ∷ us) where
      abbrev pub Turned : Page L → Result (Page L)
      Turned = turn t.place t.start t.kind t.body us

      pub rest_record : (s : Page L) → rest ts s ≡ (Turned s >>= rest us)
      unfolding walk
      rest_record s = ap (λ (l : List Token). rest l s) first ∙ sym (bind_assoc (Turned s) (walk turn us) finish)

      -- its turn, by the kind that the code found
      pub by_kind : (k : Kind) → t.kind ≡ k → (s : Page L) → Turned s ≡ turn t.place t.start k t.body us s
      by_kind k e s = ap (λ (k : Kind). turn t.place t.start k t.body us s) e

      -- a turn that is a rule on the text beside a change
      pub turn-leads : (rule : List ℕ → Result (List ℕ)) (new : List ℕ) (n : ℕ) (kept' : List ℕ) (lay' : L)
          → ((x : List ℕ) → Turned (page kept lay x) ≡ (rule x >>= λ z. gives (page kept' lay' z))) → seen new n ≡ (seen room len >>= rule)
          → Leads whole (rest us) (shown new n kept' lay')
      turn-leads rule new n kept' lay' t e =
          leads-on whole (rest ts) (shown room len kept lay) leads Turned (rest us) (shown new n kept' lay') rest_record
          (shown_by (λ s. page kept' lay' s.out) kept kept' lay lay' (λ x. refl) rule room new len n e
          ∙ sym (shown_then room len kept lay Turned (λ s. rule s.out >>= λ y. gives (page kept' lay' y)) t))

      -- a turn that meets 11
      pub turn-refuses : (rule : List ℕ → Result (List ℕ)) (text : Result (List ℕ))
          → ((x : List ℕ) → Turned (page kept lay x) ≡ (rule x >>= λ _. refused 11 t.place))
          → text ≡ (seen room len >>= λ x. rule x >>= λ _. refused 11 t.place) → text ≡ whole
      turn-refuses rule text e w =
          w ∙ sym (shown_bind room len kept lay (λ s. rule s.out >>= λ _. refused 11 t.place))
          ∙ sym (shown_then room len kept lay (rest ts) (λ s. rule s.out >>= λ _. refused 11 t.place)
          (λ x. rest_record (page kept lay x) ∙ ap (λ (q : Result (Page L)). q >>= rest us) (e x) ∙ refuses (rule x) 11 t.place (rest us)))
          ∙ leads

      -- a turn in two steps, of which the first is done
      pub turn-begins : (first : Page L → Result (Page L)) (then' : Page L → Result (List ℕ)) (shown' : Result (Page L))
          → ((x : List ℕ) → (Turned (page kept lay x) >>= rest us) ≡ (first (page kept lay x) >>= then'))
          → shown' ≡ (shown room len kept lay >>= first) → Leads whole then' shown'
      turn-begins first then' shown' t e =
          leads-on whole (λ s. first s >>= then') (shown room len kept lay)
          (leads-shown room len kept lay whole (rest ts) (λ s. first s >>= then') (λ x. rest_record (page kept lay x) ∙ t x) leads) first then' shown'
          (λ s. refl) e
