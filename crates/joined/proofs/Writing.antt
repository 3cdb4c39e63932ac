-- Bytes that are written one part after another into a room, and the parts of both forms. Assumes nothing.
use Rattle.joined.proofs.Names.{ℕ, zero, suc, ◌+◌, ◌-◌, ◌≤◌, ◌≡◌, refl, sym, ap, ◌∙◌, subst, List, [], ◌∷◌, ◌++◌, length, take, drop}
use Rattle.joined.proofs.Names.{length-take, length-drop, drop-drop, take_all, take_at, take-append-drop, arith, part, gives, size}
use Rattle.joined.proofs.Names.{token_at, tokens, joined, Token, little_bytes, cut, heads_of, heads_in, unjoined, check_joined, concat}
use Rattle.room.specs.Lent.{Lent, text_of, with_bytes}
use Rattle.room.specs.declared.Text.{Text}
use Rattle.room.proofs.Lents.{with_bytes_twice, with_none}
use Rattle.joined_rules.specs.Joined.{text_in, records}
use Rattle.joined_rules.proofs.Moves.{Shared}
use Rattle.joined_rules.proofs.Forms.{joined_shared}
use Rattle.joined_rules.proofs.Exactly.{shared_first}
use Rattle.std.specs.Int.{to_le_bytes}
use Rattle.std.proofs.Math.Nat.{div-div-eq-div-mul}
use Rattle.std.specs.Int.{w64}

-- Some bytes stand in a room; `all` is to stand after what stood there at first, and `rest` of it is left to write.
pub record Putting (all : List ℕ) (old : Lent) (rest : List ℕ) (t : Lent) : Type 0 where
  pub leads : with_bytes rest t ≡ with_bytes all old

pub putting_start : {all rest : List ℕ} (t : Lent) → rest ≡ all → Putting all t rest t
putting_start t e = record { leads = ap (λ (x : List ℕ). with_bytes x t) e }

-- some bytes of it were written, which were read as y
pub putting_more : {all left x y : List ℕ} {old t : Lent} (rest : List ℕ) (new : Lent) → Putting all old left t → left ≡ x ++ rest → y ≡ x
    → new ≡ with_bytes y t → Putting all old rest new
putting_more {x} {t} rest new w f g e = record {
  leads = ap (with_bytes rest) (e ∙ ap (λ (z : List ℕ). with_bytes z t) g) ∙ with_bytes_twice t x rest ∙ ap (λ (z : List ℕ). with_bytes z t) (sym f) ∙ w.leads;
}

pub putting_done : {all rest : List ℕ} {old : Lent} (t : Text) → Putting all old rest (text_of t) → rest ≡ [] → text_of t ≡ with_bytes all old
putting_done t w e = sym (with_none t.room.ghost_name t.room.now t.len) ∙ ap (λ (x : List ℕ). with_bytes x (text_of t)) (sym e) ∙ w.leads

-- the four lowest bytes of a number
pub four_bytes : (n : ℕ) → take 4 (to_le_bytes w64 n) ≡ little_bytes 4 n
unfolding little_bytes
four_bytes n = rw (div-div-eq-div-mul n 256 256, div-div-eq-div-mul n 65536 256) refl

-- Bodies

pub bodies_step : {all left : List Token} {t : Token} → left ≡ t ∷ all → joined left ≡ t.body ++ joined all
unfolding joined
bodies_step e = ap joined e

pub bodies_end : {left : List Token} → left ≡ [] → joined left ≡ []
unfolding joined
bodies_end e = ap joined e

-- First bytes

-- Records of a document with the first bytes of each, which go from its place to its body's start.
pub data Heads (d : List ℕ) : List Token → List (List ℕ) → Type 0 where
  none : Heads d [] []
  more : {t : Token} {ts : List Token} {h : List ℕ} {hs : List (List ℕ)} → (t.place ≤ t.start) × (t.start ≤ length d) → part d t.place t.start ≡ h
      → Heads d ts hs → Heads d (t ∷ ts) (h ∷ hs)

-- a text's first bytes, as many as there are of n
first_part : (n : ℕ) (x : List ℕ) → take (length (take n x)) x ≡ take n x
first_part n x =
    ap (take (length (take n x))) (sym (take-append-drop n x)) ∙ take_at (take n x) (drop n x) (length (take n x)) refl

heads_from_place : (d s : List ℕ) (p pass : ℕ) → s ≡ drop p d → Heads d (tokens p pass s) (cut size pass s)
unfolding tokens cut token_at
heads_from_place d [] p pass e = none
heads_from_place d (b ∷ s) p (suc pass) e = heads_from_place d s (p + 1) pass (ap (drop 1) e ∙ drop-drop 1 p d)
heads_from_place d (b ∷ s) p zero e =
    let x = b ∷ s in
    let k = length (take 6 x) in
    let z : p + k - p ≡ k = omega arith in
    more (omega arith, omega (arith, length-take 6 x, ap length e, length-drop p d))
    (ap (λ (n : ℕ). take n (drop p d)) z ∙ ap (take k) (sym e) ∙ first_part 6 x)
    (heads_from_place d s (p + 1) (5 + size x) (ap (drop 1) e ∙ drop-drop 1 p d))

-- The first bytes of the records that are left, of which a text `all` stands written where they are added.
pub record Heading (d : List ℕ) (old : Lent) (left : List Token) (t : Lent) : Type 0 where
  pub hs : List (List ℕ)
  pub firsts : Heads d left hs
  pub putting : Putting (concat (heads_of d)) old (concat hs) t

pub heading_start : (d : List ℕ) (t : Lent) {left : List Token} → left ≡ tokens 0 0 d → Heading d t left t
unfolding heads_of
heading_start d t e = rw e (record { hs = cut size 0 d; firsts = heads_from_place d d 0 0 refl; putting = putting_start t refl })

module _ {d : List ℕ} {old v : Lent} {left rest : List Token} {t : Token} (w : Heading d old left v) (e : left ≡ t ∷ rest) where
  first_head : Heads d (t ∷ rest) w.hs
  first_head = subst (λ (ts : List Token). Heads d ts w.hs) e w.firsts

  pub heading_more : (new : Lent) → new ≡ with_bytes (part d t.place t.start) v → Heading d old rest new
  heading_more new n = go w.hs first_head w.putting
    where
      go : (hs : List (List ℕ)) → Heads d (t ∷ rest) hs → Putting (concat (heads_of d)) old (concat hs) v → Heading d old rest new
      go [] k p = elim k [ ]
      go (h ∷ hs) (more l f k) p = record { hs = hs; firsts = k; putting = putting_more (concat hs) new p refl f n }

pub heading_done : {d : List ℕ} {old : Lent} {left : List Token} (t : Text) → Heading d old left (text_of t) → left ≡ []
    → text_of t ≡ with_bytes (concat (heads_of d)) old
heading_done {d} {old} t w e = go w.hs (subst (λ (ts : List Token). Heads d ts w.hs) e w.firsts) w.putting
  where
    go : (hs : List (List ℕ)) → Heads d [] hs → Putting (concat (heads_of d)) old (concat hs) (text_of t) → text_of t ≡ with_bytes (concat (heads_of d)) old
    go [] none p = putting_done t p refl
    go (h ∷ hs) k p = elim k [ ]

-- Records of a joined form

-- Some text is left for the records that are left, and what they give together is left to write.
pub record Sharing (j : List ℕ) (old : Lent) (text : List ℕ) (hs : List (List ℕ)) (t : Lent) : Type 0 where
  pub shared : Shared text hs
  pub putting : Putting (unjoined j) old (records text hs) t

pub sharing_start : (j text : List ℕ) (t : Lent) {hs : List (List ℕ)} → check_joined j ≡ gives [] → text ≡ text_in j → hs ≡ heads_in j → Sharing j t text hs t
unfolding unjoined
sharing_start j text t e f g = rw (f, g) (record { shared = joined_shared j [] e; putting = putting_start t refl })

module _ {j text h : List ℕ} {old t : Lent} {hs rest : List (List ℕ)} (w : Sharing j old text hs t) (e : hs ≡ h ∷ rest) where
  first : (length h ≡ 6) × (size h ≤ length text) × Shared (drop (size h) text) rest
  first = shared_first (subst (Shared text) e w.shared)

  module _ {n : ℕ} (f : n ≡ size h) where
    -- its first bytes and its share are written
    pub sharing_more : {x y : List ℕ} (one two : Lent) → one ≡ with_bytes h t → two ≡ with_bytes x one → x ≡ take n text → y ≡ drop n text
        → Sharing j old y rest two
    unfolding records
    sharing_more one two a b g k = rw (k, f) (record {
      shared = first.2;
      putting = putting_more (records (drop (size h) text) rest) two
          (putting_more (take (size h) text ++ records (drop (size h) text) rest) one w.putting (ap (records text) e) refl a) refl
          (g ∙ ap (λ (m : ℕ). take m text) f) b;
    })

    -- .. where its first six bytes are written, which are all that it has
    pub sharing_more_six : {x y : List ℕ} (one two : Lent) → one ≡ with_bytes (take 6 h) t → two ≡ with_bytes x one → x ≡ take n text → y ≡ drop n text
        → Sharing j old y rest two
    sharing_more_six one two a = sharing_more one two (a ∙ ap (λ (l : List ℕ). with_bytes l t) (take_all 6 h (omega (arith, first.0))))

-- no record is left
pub sharing_done : {j text : List ℕ} {old : Lent} {hs : List (List ℕ)} (t : Text) → Sharing j old text hs (text_of t) → hs ≡ []
    → text_of t ≡ with_bytes (unjoined j) old
unfolding records
sharing_done {text = text} t w e = putting_done t w.putting (ap (records text) e)
