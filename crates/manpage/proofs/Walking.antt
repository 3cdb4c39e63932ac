-- The walk over the records: what stands in the room, and the rules run from here on, give the whole. Assumes nothing.
use Rattle.manpage.proofs.Names.{ℕ, ◌+◌, ◌≤◌, ◌<◌, ◌≡◌, refl, sym, ap, ap₂, ◌∙◌, subst, Bool, true, false, false≢true, ⊎_elim, List, [], ◌∷◌}
use Rattle.manpage.proofs.Names.{◌++◌}
use Rattle.manpage.proofs.Names.{part_none, pick, eqb, eqb-true, Alike, Head, Read, token_of, bare, kind_of, silent, behind}
use Rattle.manpage.proofs.Names.{append_assoc, append-nil, length, take, drop, length-take-le, arith, part, Result, gives, refused, ◌>>=◌}
use Rattle.manpage.proofs.Names.{if_true, if_false, le_or_lt, bind_assoc, Token, tokens, tokens_from, check, Kind, Style}
use Rattle.manpage.proofs.Names.{Block}
use Rattle.manpage.proofs.Names.{seen, extended, seen_in, seen-out, walk, Roff, Composed, roff_of, pushed, stripped, preamble, Written}
use Rattle.manpage.proofs.Names.{escape_all, line_after, writes, begun, pushes, text, pushes-writes, pushed_none, Locals, initial, Outcome, captures}
use Rattle.manpage.proofs.Names.{font_of, subsection, started, ended, token, State, state, turn, roff_on, roff, locals, Follows, is_heading, is_term_ref}
use Rattle.manpage.proofs.Names.{ends_heading, record_text, texts_valid, heading_text, opened, shut, closed}
use Rattle.refusal.specs.Answers.{answered}
use Rattle.refusal.specs.Numbers.{refusal_number, refusal_place}
use Rattle.records.specs.declared.Kind.TheVariants as kind
use Rattle.records.proofs.Reading.{read_next, bare_read}
use Rattle.refusal.specs.declared.Refusal.{Refusal}
use Rattle.std.specs.Prelude.{Result as Answer, Ok, Err, Option, Some, None, is_some, unwrap_or}
use Rattle.room.proofs.Lents.{past_room}
use Rattle.renderer.proofs.Leads.{Leads, leads-on, leads-out, leads-refused, leads-end, leads-same, turned, walk_record, walk_end}
use Rattle.manpage.specs.InnerParts.{HasBegun, IsSameRoom}
use Rattle.manpage.proofs.Capturing.{heading-ends, heading_on, valid_after}
use Rattle.manpage.proofs.Blocks.{started-gives, ended-gives, started-refused, ended-refused, opened-on, opened-heading, opened-other, shut-on, shut-heading}
use Rattle.manpage.proofs.Blocks.{shut-other, behind_on, nothing, silent-block, number_silent}

-- The state

-- what a `Roff` holds, with some locals
unfoldable pub marked : Roff → Locals → Result State
marked m l = seen m.text.now.room.now m.text.now.len >>= λ x. gives (state l (record { out = x; fresh = m.fresh }))

-- a text that fits, and one that does not
module _ (m : Roff) (l : Locals) where
  marked_in : m.text.now.len ≤ length m.text.now.room.now
      → marked m l ≡ gives (state l (record { out = take m.text.now.len m.text.now.room.now; fresh = m.fresh }))
  unfolding marked ◌>>=◌
  marked_in h = rw (seen_in m.text.now.room.now m.text.now.len h)

  marked-out : length m.text.now.room.now < m.text.now.len → marked m l ≡ refused 13 0
  unfolding marked ◌>>=◌
  marked-out h = rw (seen-out m.text.now.room.now m.text.now.len h)

-- two rules that agree on what can stand in a room
seen_then : {A : Type 0} (room : List ℕ) (len : ℕ) (f g : List ℕ → Result A) → ((x : List ℕ) → length x ≤ length room → f x ≡ g x)
    → (seen room len >>= f) ≡ (seen room len >>= g)
unfolding ◌>>=◌
seen_then room len f g h =
    ⊎_elim
    (λ (k : len ≤ length room). rw (seen_in room len k) (h (take len room) (let e : length (take len room) ≡ len = length-take-le len room k in omega arith)))
    (λ (k : length room < len). rw (seen-out room len k) refl)
    (le_or_lt len (length room))

-- a token's pieces were pushed: its turn
module _ (limit p q : ℕ) (k : Kind) (x : List ℕ) (ts : List Token) (l : Locals) (o : Outcome) (gave : token p k x l ≡ gives o) where
  turn-writes : (w : Written) → length w.out ≤ limit → turn limit p q k x ts (state l w)
      ≡ (extended limit (escape_all w.fresh o.pushed) w.out
      >>= λ y. gives (state o.after (record { out = y; fresh = line_after w.fresh o.pushed })))
  unfolding turn writes ◌>>=◌
  turn-writes w h =
      ap (λ (t : Result Outcome). t >>= λ o. pushes limit o.pushed w >>= λ v. gives (state o.after v)) gave
      ∙ ap (λ (t : Result Written). t >>= λ v. gives (state o.after v)) (pushes-writes limit o.pushed w h)
      ∙ sym (bind_assoc (extended limit (escape_all w.fresh o.pushed) w.out) _ _)

  turn_made : (m r : Roff) → length m.text.now.room.now ≡ limit → roff_of r ≡ stripped o.after.strip (pushed o.pushed (roff_of m))
      → marked r o.after ≡ (marked m l >>= turn limit p q k x ts)
  unfolding marked ◌>>=◌
  turn_made m r size f =
      let old = m.text.now.room.now in
      let len = m.text.now.len in
      let start = m.fresh in
      let rest : Bool → List ℕ → Result State = λ b y. gives (state o.after (record { out = y; fresh = b })) in
      let bytes = escape_all start o.pushed in
      let after = line_after start o.pushed in
      ap₂ (λ (t : Result (List ℕ)) (b : Bool). t >>= rest b)
      (ap (λ (v : Composed). v.payload.text.shown) f ∙ ap (λ (n : ℕ). seen old len >>= extended n bytes) size) (ap (λ (v : Composed). v.payload.fresh) f)
      ∙ sym (bind_assoc (seen old len) (extended limit bytes) (rest after))
      ∙ sym (seen_then old len _ _ (λ y h. turn-writes (record { out = y; fresh = start }) (omega (arith, size))))
      ∙ bind_assoc (seen old len) _ (turn limit p q k x ts)

-- The whole

abbrev pub whole : ℕ → List ℕ → Result State
whole limit document = begun limit >>= λ w. walk (turn limit) (tokens 0 0 document) (state initial w)

pub whole-refused : (limit : ℕ) (document : List ℕ) (n p : ℕ) → whole limit document ≡ refused n p
    → refused n p ≡ roff_on limit (tokens 0 0 document)
unfolding ◌>>=◌
whole-refused limit document n p e = sym (ap (λ (s : Result State). s >>= λ s. gives s.written.out) e)

-- Silent blocks

silent_kind : (k : Kind) → silent k ≡ true
    → (ends_heading k ≡ false) × ((x : List ℕ) → [] ≡ record_text k x) × ((p : ℕ) (x : List ℕ) (l : Locals) → token p k x l ≡ nothing l)
unfolding token
silent_kind (kind.Text st) e = absurd (false≢true e)
silent_kind (kind.Start b) e = (refl, λ x. refl, λ p x l. ((silent-block b e).1 p l).0)
silent_kind (kind.End b) e = ((silent-block b e).0, λ x. refl, λ p x l. ((silent-block b e).1 p l).1)
silent_kind kind.Unknown e = absurd (false≢true e)

silent_turn : (limit p q : ℕ) (k : Kind) (x : List ℕ) (ts : List Token) (s : State) → silent k ≡ true → turn limit p q k x ts s ≡ gives s
unfolding turn pushes ◌>>=◌
silent_turn limit p q k x ts s e =
    ap (λ (t : Result Outcome). t >>= λ o. pushes limit o.pushed s.written >>= λ w. gives (state o.after w)) ((silent_kind k e).2 p x s.locals)

module _ {document : List ℕ} {at : ℕ} where
  pub alike_then : {next last : ℕ} → Alike document at next → Alike document next last → Alike document at last
  alike_then a b = record {
    walks = λ limit s. a.walks limit s ∙ b.walks limit s;
    heading = a.heading ∙ b.heading;
    valid = λ v. b.valid (a.valid v);
  }

  pub alike_past : {h : Head} → Read document at h → at < length document → silent h.kind ≡ true → Alike document at h.next
  unfolding ◌>>=◌
  alike_past {h} r l e =
      let first = read_next r l in
      record {
        walks = λ limit s.
            walk_record (turn limit) document at h r l s
            ∙ ap (λ (t : Result State). t >>= walk (turn limit) (tokens_from document h.next))
            (silent_turn limit at h.start h.kind (part document h.start h.next) (tokens_from document h.next) s e);
        heading = heading_on _ first [] ((silent_kind h.kind e).1 (part document h.start h.next)) (silent_kind h.kind e).0;
        valid = valid_after _ first;
      }

-- past a record whose kind's number stands there without a body
pub alike_bare : (document : List ℕ) (from at k : ℕ) → k ≡ bare (drop at document) → silent (kind_of k) ≡ true
    → (from ≤ at) × Alike document from at → (at + 6 ≤ length document) × (from ≤ at + 6) × Alike document from (at + 6)
alike_bare document from at k e s a =
    let b = bare_read document at k e (number_silent k s) in
    (b.0, omega (arith, a.0), alike_then a.1 (alike_past b.1 (omega (arith, b.0)) s))

-- Captured text

-- What is captured before the record at a place: the text from where capture began up to there; while it is off, none. From where it began on, text is
-- UTF-8.
pub record Holds (document : List ℕ) (captured : Option ℕ) (at : ℕ) (kept : List ℕ) : Type 0 where
  pub valid : texts_valid (tokens_from document (unwrap_or captured at)) ≡ true
  pub chain : heading_text (tokens_from document (unwrap_or captured at)) ≡ kept ++ heading_text (tokens_from document at)
  pub none : is_some captured ≡ false → kept ≡ []

module _ (document : List ℕ) (at next : ℕ) (kept : List ℕ) (ahead : texts_valid (tokens_from document next) ≡ true) where
  holds_none : Holds document None next []
  holds_none = record { valid = ahead; chain = refl; none = λ z. refl }

  -- while capture is off
  holds_off : (captured : Option ℕ) → is_some captured ≡ false → Holds document captured at kept → Holds document captured next kept
  holds_off (Some x) e h = absurd (false≢true (sym e))
  holds_off None e h = subst (Holds document None next) (sym (h.none refl)) holds_none

  -- after captured text
  holds_more : (x : List ℕ) (captured : Option ℕ) → is_some captured ≡ true
      → heading_text (tokens_from document at) ≡ x ++ heading_text (tokens_from document next)
      → Holds document captured at kept → Holds document captured next (kept ++ x)
  holds_more x None e f h = absurd (false≢true e)
  holds_more x (Some from) e f h = record {
    valid = h.valid;
    chain = h.chain ∙ ap (λ (y : List ℕ). kept ++ y) f ∙ sym (append_assoc kept x (heading_text (tokens_from document next)));
    none = λ z. absurd (false≢true (sym z));
  }

  module _ (same : heading_text (tokens_from document at) ≡ heading_text (tokens_from document next)) where
    -- after records that have no text
    holds_on : (captured : Option ℕ) → Holds document captured at kept → Holds document captured next kept
    holds_on (Some from) h = record { valid = h.valid; chain = h.chain ∙ ap (λ (y : List ℕ). kept ++ y) same; none = h.none }
    holds_on None h = subst (Holds document None next) (sym (h.none refl)) holds_none

    holds_some : (captured : Option ℕ) → Holds document captured at kept → Holds document (Some (unwrap_or captured at)) next kept
    holds_some captured h = record {
      valid = h.valid;
      chain = h.chain ∙ ap (λ (y : List ℕ). kept ++ y) same;
      none = λ z. absurd (false≢true (sym z));
    }

    -- those that stand before all captured text need not be read again
    holds_behind : (captured : Option ℕ) → Holds document captured next kept → Holds document (behind captured at next) next kept
    unfolding behind
    holds_behind None h = h
    holds_behind (Some from) h =
        pick (λ (c : Option ℕ). Holds document c next kept) (eqb from at)
        (λ e. record {
          valid = ahead;
          chain = sym same ∙ ap (λ (n : ℕ). heading_text (tokens_from document n)) (sym (eqb-true from at e)) ∙ h.chain;
          none = λ z. absurd (false≢true (sym z));
        })
        (λ _. h)

-- Before the record at a place.
pub record On (first : Composed) (document : List ℕ) (m : Roff) (captured : Option ℕ) (at : ℕ) : Type 0 where
  pub same : IsSameRoom first (roff_of m)
  pub ahead : texts_valid (tokens_from document at) ≡ true
  pub kept : List ℕ
  pub holds : Holds document captured at kept
  pub leads : Leads (whole first.payload.text.size document) (walk (turn first.payload.text.size) (tokens_from document at))
      (marked m (locals m.strip kept (is_some captured)))

pub on_start : (document : List ℕ) (m : Roff) → texts_valid (tokens 0 0 document) ≡ true → HasBegun (roff_of m) → On (roff_of m) document m None 0
unfolding marked begun writes ◌>>=◌
on_start document m v e =
    let limit = length m.text.now.room.now in
    record {
      same = record { loan = refl; name = refl; size = refl };
      ahead = v;
      kept = [];
      holds = record { valid = v; chain = refl; none = λ z. refl };
      leads = rw (ap (λ (v : Composed). v.payload.text.shown) e, ap (λ (v : Composed). v.payload.fresh) e, ap (λ (v : Composed). v.strip) e)
          (sym (bind_assoc (extended limit preamble []) _ _)
          ∙ bind_assoc (extended limit preamble []) _ (λ w. walk (turn limit) (tokens 0 0 document) (state initial w)));
    }

token-refused : (p : ℕ) (k : Kind) (x : List ℕ) (l : Locals) → is_term_ref k ≡ true → token p k x l ≡ refused 11 p
unfolding token
token-refused p (kind.Text st) x l e = absurd (false≢true e)
token-refused p (kind.Start b) x l e = started-refused p l b e
token-refused p (kind.End b) x l e = ended-refused p l b e
token-refused p kind.Unknown x l e = absurd (false≢true e)

module _ {start : Composed} {document : List ℕ} {m : Roff} {captured : Option ℕ} {at : ℕ} (o : On start document m captured at) where
  abbrev limit : ℕ
  limit = start.payload.text.size

  abbrev here : Locals
  here = locals m.strip o.kept (is_some captured)

  abbrev rest : State → Result State
  rest = walk (turn limit) (tokens_from document at)

  pub refused_13 : seen m.text.now.room.now m.text.now.len ≡ refused 13 0 → refused 13 0 ≡ roff_on limit (tokens 0 0 document)
  refused_13 h =
      whole-refused limit document 13 0
      (leads-out (whole limit document) rest (marked m here) o.leads 13 0 (marked-out m here (past_room m.text.now.room.now m.text.now.len h)))

  done_in : length document ≤ at → m.text.now.len ≤ length m.text.now.room.now
      → seen m.text.now.room.now m.text.now.len ≡ roff_on limit (tokens 0 0 document)
  unfolding ◌>>=◌
  done_in h i =
      seen_in m.text.now.room.now m.text.now.len i
      ∙ sym (ap (λ (s : Result State). s >>= λ s. gives s.written.out)
      (sym (leads-end (whole limit document) rest (marked m here) o.leads (walk_end (turn limit) document at h)) ∙ marked_in m here i))

  -- a text that is longer than the room
  done_out : length m.text.now.room.now < m.text.now.len → seen m.text.now.room.now m.text.now.len ≡ roff_on limit (tokens 0 0 document)
  done_out i = let out = seen-out m.text.now.room.now m.text.now.len i in out ∙ refused_13 out

  -- no record is left
  pub done : length document ≤ at → seen m.text.now.room.now m.text.now.len ≡ roff_on limit (tokens 0 0 document)
  done h = ⊎_elim (done_in h) done_out (le_or_lt m.text.now.len (length m.text.now.room.now))

  -- past records between which nothing was to be done
  on_passed : (next : ℕ) → Alike document at next → On start document m captured next
  on_passed next a =
      let ahead = a.valid o.ahead in
      record {
        same = o.same;
        ahead = ahead;
        kept = o.kept;
        holds = holds_on document at next o.kept ahead a.heading captured o.holds;
        leads = leads-same (whole limit document) rest (marked m here) o.leads (walk (turn limit) (tokens_from document next)) (a.walks limit);
      }

  -- records without text from a place up to here, which need not be read again where they stand before all captured text
  on_behind : (place : ℕ) → heading_text (tokens_from document place) ≡ heading_text (tokens_from document at)
      → On start document m (behind captured place at) at
  on_behind place e = record {
    same = o.same;
    ahead = o.ahead;
    kept = o.kept;
    holds = holds_behind document place at o.kept o.ahead e captured o.holds;
    leads = subst (λ (c : Bool). Leads (whole limit document) rest (marked m (locals m.strip o.kept c))) (sym (behind_on captured place at)) o.leads;
  }

-- At a record

module _ {start : Composed} {document : List ℕ} {m : Roff} {captured : Option ℕ} {at : ℕ} (o : On start document m captured at)
    {h : Head} (r : Read document at h) (l : at < length document) where
  abbrev size : ℕ
  size = start.payload.text.size

  abbrev now : Locals
  now = locals m.strip o.kept (is_some captured)

  abbrev own : List ℕ
  own = part document h.start h.next

  abbrev follow : State → Result State
  follow = turned (turn size) document at h

  abbrev after : State → Result State
  after = walk (turn size) (tokens_from document h.next)

  walks : (s : State) → walk (turn size) (tokens_from document at) s ≡ (follow s >>= after)
  walks = walk_record (turn size) document at h r l

  first : tokens_from document at ≡ token_of document at h ∷ tokens_from document h.next
  first = read_next r l

  ahead-on : texts_valid (tokens_from document h.next) ≡ true
  ahead-on = valid_after _ first o.ahead

  -- its token was followed
  next : (m' : Roff) (captured' : Option ℕ) (kept' : List ℕ) (q : Outcome) → token at h.kind own now ≡ gives q
      → roff_of m' ≡ stripped q.after.strip (pushed q.pushed (roff_of m)) → q.after.kept ≡ kept' → q.after.capture ≡ is_some captured'
      → Holds document captured' h.next kept' → On start document m' captured' h.next
  next m' captured' kept' q e w k c g = record {
    same = record {
      loan = ap (λ (v : Composed). v.loan) w ∙ o.same.loan;
      name = ap (λ (v : Composed). v.payload.text.name) w ∙ o.same.name;
      size = ap (λ (v : Composed). v.payload.text.size) w ∙ o.same.size;
    };
    ahead = ahead-on;
    kept = kept';
    holds = g;
    leads = leads-on (whole size document) (walk (turn size) (tokens_from document at)) (marked m now) o.leads follow after (marked m' _) walks
        (ap (marked m') (λ i. record { strip = ap (λ (v : Composed). v.strip) w i; kept = sym k i; capture = sym c i })
        ∙ turn_made size at h.start h.kind own (tokens_from document h.next) now q e m m' o.same.size w);
  }

  -- by its kind
  as_kind : (k : Kind) (v : Result Outcome) → h.kind ≡ k → token at k own now ≡ v → token at h.kind own now ≡ v
  as_kind k v e q = ap (λ (k : Kind). token at k own now) e ∙ q

  -- a record that neither ends a heading nor has text
  passes : (k : Kind) → h.kind ≡ k → ends_heading k ≡ false → record_text k own ≡ []
      → heading_text (tokens_from document at) ≡ heading_text (tokens_from document h.next)
  passes k e n t = heading_on _ first [] (sym (ap (λ (k : Kind). record_text k own) e ∙ t)) (ap ends_heading e ∙ n)

  pub on_unknown : h.kind ≡ kind.Unknown → On start document m captured h.next
  unfolding token
  on_unknown e =
      next m captured o.kept _ (as_kind kind.Unknown _ e refl) (pushed_none m) refl refl
      (holds_on document at h.next o.kept ahead-on (passes kind.Unknown e refl refl) captured o.holds)

  -- a silent record, and those after it that are stepped over
  pub on_silent : (last : ℕ) → silent h.kind ≡ true → Alike document h.next last → On start document m (behind captured at last) last
  on_silent last e a = let b = alike_then (alike_past r l e) a in on_behind (on_passed o last b) at b.heading

  pub on_started : {b : Block} (m' : Roff) → h.kind ≡ kind.Start b → is_term_ref (kind.Start b) ≡ false
      → ((p : ℕ) (kept : List ℕ) (capture : Bool) → Follows (started p b (locals m.strip kept capture)) (roff_of m) (roff_of m'))
      → On start document m' (opened b captured at h.next) h.next
  unfolding token
  on_started {b} m' e q w =
      let g = started-gives at now b q in
      next m' (opened b captured at h.next) o.kept g.0 (as_kind (kind.Start b) (gives g.0) e g.1)
      (subst (λ (v : Result Outcome). Follows v (roff_of m) (roff_of m')) g.1 (w at o.kept (is_some captured)))
      g.2.keeps (g.2.captures ∙ sym (opened-on b captured at h.next)) (go (is_heading b) refl (passes (kind.Start b) e refl refl))
    where
      go : (c : Bool) → is_heading b ≡ c → heading_text (tokens_from document at) ≡ heading_text (tokens_from document h.next)
          → Holds document (opened b captured at h.next) h.next o.kept
      go true i same =
          subst (λ (q : Option ℕ). Holds document q h.next o.kept) (opened-heading b captured at h.next i)
          (holds_behind document at h.next o.kept ahead-on same (Some (unwrap_or captured at))
          (holds_some document at h.next o.kept ahead-on same captured o.holds))
      go false i same =
          subst (λ (q : Option ℕ). Holds document q h.next o.kept) (opened-other b captured at h.next i)
          (holds_on document at h.next o.kept ahead-on same captured o.holds)

  pub on_ended : {b : Block} (m' : Roff) → h.kind ≡ kind.End b → is_term_ref (kind.End b) ≡ false
      → ((p : ℕ) (kept : List ℕ) (capture : Bool) → (is_heading b ≡ true → heading_text (tokens_from document (unwrap_or captured at)) ≡ kept)
      → Follows (ended p b (locals m.strip kept capture)) (roff_of m) (roff_of m'))
      → On start document m' (shut b captured) h.next
  unfolding token closed
  on_ended {b} m' e q w =
      let g = ended-gives at now b q in
      let all : is_heading b ≡ true → heading_text (tokens_from document (unwrap_or captured at)) ≡ o.kept =
      λ i. o.holds.chain ∙ ap (λ (y : List ℕ). o.kept ++ y) (heading-ends _ first (ap ends_heading e ∙ i)) ∙ append-nil o.kept in
      next m' (shut b captured) (closed b o.kept) g.0 (as_kind (kind.End b) (gives g.0) e g.1)
      (subst (λ (v : Result Outcome). Follows v (roff_of m) (roff_of m')) g.1 (w at o.kept (is_some captured) all))
      g.2.keeps (g.2.captures ∙ sym (shut-on b captured)) (go (is_heading b) refl)
    where
      go : (c : Bool) → is_heading b ≡ c → Holds document (shut b captured) h.next (closed b o.kept)
      go true i =
          subst (λ (q : Option ℕ). Holds document q h.next (closed b o.kept)) (shut-heading b captured i)
          (subst (Holds document None h.next) (sym (if_true _ _ i)) (holds_none document at h.next o.kept ahead-on))
      go false i =
          subst (λ (q : Option ℕ). Holds document q h.next (closed b o.kept)) (shut-other b captured i)
          (subst (Holds document captured h.next) (sym (if_false _ _ i))
          (holds_on document at h.next o.kept ahead-on (passes (kind.End b) e i refl) captured o.holds))

  pub on_text : {st : Style} (m' : Roff) → h.kind ≡ kind.Text st → is_some captured ≡ false
      → roff_of m' ≡ pushed (subsection st ++ text m.strip (font_of st) own) (roff_of m) → On start document m' captured h.next
  unfolding token
  on_text {st} m' e q w =
      next m' captured o.kept _ (as_kind (kind.Text st) _ e (if_false _ _ q)) w refl refl
      (holds_off document at h.next o.kept ahead-on captured q o.holds)

  pub on_captured : {st : Style} → h.kind ≡ kind.Text st → is_some captured ≡ true → On start document m captured h.next
  unfolding token captures
  on_captured {st} e q =
      next m captured (o.kept ++ own) _ (as_kind (kind.Text st) _ e (if_true _ _ q)) (pushed_none m) refl refl
      (holds_more document at h.next o.kept ahead-on own captured q
      (heading_on _ first own (sym (ap (λ (k : Kind). record_text k own) e)) (ap ends_heading e)) o.holds)

  -- .. that is empty
  pub on_empty : {st : Style} → h.kind ≡ kind.Text st → is_some captured ≡ true → h.start ≡ h.next → On start document m (behind captured at h.next) h.next
  on_empty {st} e q z =
      on_behind (on_captured e q) at (passes (kind.Text st) e refl (part_none document h.start h.next (omega (arith, z))))

  -- 11, or 13 where that was met before
  refused_in : m.text.now.len ≤ length m.text.now.room.now → is_term_ref h.kind ≡ true
      → (seen m.text.now.room.now m.text.now.len >>= λ x. refused 11 at) ≡ roff_on size (tokens 0 0 document)
  unfolding turn ◌>>=◌
  refused_in i e =
      rw (seen_in m.text.now.room.now m.text.now.len i)
      (whole-refused size document 11 at
      (leads-refused (whole size document) (walk (turn size) (tokens_from document at)) (marked m now) o.leads follow after 11 at
      walks (rw (marked_in m now i, token-refused at h.kind own now e) refl)))

  refused_out : length m.text.now.room.now < m.text.now.len
      → (seen m.text.now.room.now m.text.now.len >>= λ x. refused 11 at) ≡ roff_on size (tokens 0 0 document)
  unfolding ◌>>=◌
  refused_out i =
      let out = seen-out m.text.now.room.now m.text.now.len i in
      rw out (refused_13 o out)

  pub refused_11 : is_term_ref h.kind ≡ true → (seen m.text.now.room.now m.text.now.len >>= λ x. refused 11 at) ≡ roff_on size (tokens 0 0 document)
  refused_11 e = ⊎_elim (λ i. refused_in i e) refused_out (le_or_lt m.text.now.len (length m.text.now.room.now))

-- The document

module _ (n : ℕ) (document : List ℕ) where
  pub roff_accepted : check document ≡ gives [] → roff_on n (tokens 0 0 document) ≡ roff n document
  unfolding roff ◌>>=◌
  roff_accepted e = rw e

  pub roff-refused : (number place : ℕ) → check document ≡ refused number place → roff n document ≡ refused number place
  unfolding roff ◌>>=◌
  roff-refused number place e = rw e

-- What the walk answers, with the text that it leaves

module _ (limit : ℕ) (document : List ℕ) (r : Answer (Unit {0}) Refusal) (s : Result (List ℕ))
    (walked : (answered r >>= λ _. s) ≡ roff_on limit (tokens 0 0 document)) where
  pub walked_refused : {a : Refusal} → r ≡ Err a → check document ≡ gives [] → refused (refusal_number a) (refusal_place a) ≡ roff limit document
  unfolding ◌>>=◌
  walked_refused e k = sym (ap (λ (r : Answer (Unit {0}) Refusal). answered r >>= λ _. s) e) ∙ walked ∙ roff_accepted limit document k

  pub walked_given : {u : Unit {0}} → r ≡ Ok u → check document ≡ gives [] → s ≡ roff limit document
  unfolding ◌>>=◌
  walked_given e k = sym (ap (λ (r : Answer (Unit {0}) Refusal). answered r >>= λ _. s) e) ∙ walked ∙ roff_accepted limit document k
