-- The records of a document, as the iterator gives them.
use Rattle.std.specs.Prelude.{List}
use Rattle.records.specs.Records.{Token, tokens_from}
use Rattle.records.specs.declared.Record.{Record}
use Rattle.records.specs.declared.Records.{Records}

-- the rules' record that one is
abbrev pub token : Record → Token
token r = record { place = r.place; start = r.start; kind = r.kind; body = r.body.now }

-- the records that are left
abbrev pub left : Records → List Token
left s = tokens_from s.document.now s.at
