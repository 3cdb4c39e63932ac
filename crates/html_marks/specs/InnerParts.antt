-- What the functions of HTML and Markdown promise each other; no rule of 01 stands here.
use Rattle.std.specs.Prelude.{Bool}
use Rattle.records.specs.Records.{is_of}
use Rattle.records.specs.declared.Kind.{Kind}

-- a record is the start or the end of a Meta
abbrev pub is_meta : Kind → Bool
is_meta = is_of 10
