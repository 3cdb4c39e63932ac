-- The answers on the samples, a document moved over and back, and places of the one form in the other: computed. Assumes nothing.
use Rattle.joined_rules.proofs.Names.{ℕ, ◌≡◌, refl, List, [], ◌∷◌, map, when◌then◌else◌, gives, refused, ◌>>=◌, top, pushed, popped, Token, little}
use Rattle.joined_rules.proofs.Names.{styles, blocks, kind_of, size, token_at, tokens, record_fits, joined, document_text, little_bytes, head, opens}
use Rattle.joined_rules.proofs.Names.{closes, bodiless, accept, first, reads, open_blocks, short, closed, check, extended, place_from, byte_from}
use Rattle.joined_rules.proofs.Names.{place_in, byte_in, back_in}
use Rattle.utf8.specs.Utf8.{table, row_of, bytes, encode}
use Rattle.records.specs.declared.Style.TheVariants as style
use Rattle.records.specs.declared.Block.TheVariants as block
use Rattle.records.specs.declared.Kind.TheVariants as kind
use Rattle.joined_rules.specs.Joined.{cut, head_kind, has_text, text_in, records_at, heads_in, lengthless, shares, accept_share, first_share, used}
use Rattle.joined_rules.specs.Joined.{reads_shares, short_joined, whole_text, reads_joined, check_joined, tokens_shared, tokens_in, heads_of, joined_form}
use Rattle.joined_rules.specs.Joined.{records, unjoined, joins, unjoins, joins_into, unjoins_into}
use Rattle.joined_rules.specs.Samples.{Sample, form_of, share, mono, mono_end, samples, textless}

-- the check
pub samples_hold : map (λ (s : Sample). check_joined (form_of s)) samples ≡ map (λ (s : Sample). s.answer) samples
unfolding samples form_of share mono mono_end bytes encode table row_of little_bytes head cut head_kind has_text text_in records_at heads_in lengthless
    shares accept_share first_share used reads_shares short_joined whole_text reads_joined check_joined kind_of styles blocks little size opens closes closed
    top pushed popped when◌then◌else◌ ◌>>=◌
samples_hold = refl

pub textless_hold : map check_joined textless ≡ refused 17 0 ∷ refused 17 0 ∷ refused 17 0 ∷ refused 17 0 ∷ []
unfolding textless check_joined short_joined whole_text has_text size little when◌then◌else◌ ◌>>=◌
textless_hold = refl

-- 01's `a b`, moved over and back, in rooms that just hold it and in rooms of one byte less

document : List ℕ
document = 3 ∷ 0 ∷ 0 ∷ 0 ∷ 1 ∷ 0 ∷ 0x61 ∷ 0x20 ∷ 0x62 ∷ []

form : List ℕ
form = 3 ∷ 0 ∷ 0 ∷ 0 ∷ 0x61 ∷ 0x20 ∷ 0x62 ∷ 3 ∷ 0 ∷ 0 ∷ 0 ∷ 1 ∷ 0 ∷ []

over : map (λ (n : ℕ). joins_into n document) (13 ∷ 12 ∷ []) ≡ gives form ∷ refused 13 0 ∷ []
unfolding document form joins_into joins joined_form document_text heads_of joined tokens token_at cut little_bytes extended check short open_blocks
    reads first accept bodiless record_fits closed opens closes kind_of styles blocks little size table row_of when◌then◌else◌ ◌>>=◌
over = refl

back : map (λ (n : ℕ). unjoins_into n form) (9 ∷ 8 ∷ []) ≡ gives document ∷ refused 13 0 ∷ []
unfolding document form unjoins_into unjoins unjoined records text_in heads_in records_at cut extended check_joined short_joined whole_text has_text
    reads_joined reads_shares first_share accept_share shares used head_kind closed kind_of styles blocks little size table row_of when◌then◌else◌ ◌>>=◌
back = refl

-- `a`, an empty Mono, `b`: its records have their places and their texts' starts in the form; a refusal of the document's `b` or of its record there

two : List ℕ
two = form_of (record { text = 0x61 ∷ 0x62 ∷ []; heads = share 1 ∷ mono ∷ mono_end ∷ share 1 ∷ []; answer = gives [] })

listed : List Token
listed =
    record { place = 6; start = 4; kind = kind.Text style.Text; body = 0x61 ∷ [] }
    ∷ record { place = 12; start = 5; kind = kind.Start block.Mono; body = [] }
    ∷ record { place = 18; start = 5; kind = kind.End block.Mono; body = [] }
    ∷ record { place = 24; start = 5; kind = kind.Text style.Text; body = 0x62 ∷ [] }
    ∷ []

two_listed : tokens_in two ≡ listed
unfolding two listed form_of share mono mono_end little_bytes head tokens_in tokens_shared text_in heads_in records_at cut head_kind kind_of styles
    blocks little size when◌then◌else◌
two_listed = refl

-- the Mono's start stands at 7 in the document, `b` at 25 in the record at 19, and its end at 26
two_places : back_in two 11 7 ∷ back_in two 11 19 ∷ back_in two 10 25 ∷ back_in two 10 26 ∷ [] ≡ 12 ∷ 24 ∷ 5 ∷ 6 ∷ []
unfolding two form_of share mono mono_end little_bytes head back_in place_in byte_in place_from byte_from heads_in records_at cut little size
    when◌then◌else◌
two_places = refl
