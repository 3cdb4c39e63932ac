-- What the walks by hand cite of the logic, under one module: one `use` line in place of forty. What is unfolded is passed on as `unfoldable`.
pub use Prim.Native.Nat.{ℕ, ◌<◌, ◌^◌, ◌+◌}
pub use base.Fml.{fsep, fat, froom, fdies, GName, Fml, ftrue, flft, flent, Lft, Share, fobs, fbor, fdead}
pub use base.Logic.{SProp, ent, sep, id⊢, emp, snd∗, ex_e, via, fst∗}
pub use contract.BorrowLft.{meet_⊑_right}
pub use contract.Lifetimes.{AllOutlive, Lfts}
pub use contract.Monad.{fact, Fun}
pub use contract.Running.{tables}
unfoldable pub use contract.Running.{tables_of}
pub use denote.Builtin.{usize, unit, u8, bool}
pub use denote.Exit.{yes}
pub use denote.Laws.{Is, shows}
pub use denote.Lend.{lends_ref, ref_back}
pub use denote.Memory.{mem, cell_at, pointee}
unfoldable pub use denote.Memory.{part_of}
pub use denote.Plain.{uint_vals, uint_Tells, uint_Makes, uint_Lawful, bool_Lawful}
pub use denote.RattleType.{owns, RattleType}
pub use denote.Ref.{Bor, MutBor, MutRef, shr_vals, mut_vals, mut_Tells, NamedLft}
pub use denote.Signature.{plain, named_lft, Slot}
pub use denote.Slice.{slice_ty, slice_val, ShrSlice, shr_slice_vals, mut_slice_vals, shr_slice_Tells, shr_slice_Lawful, shr_slice_copy}
pub use denote.Steps.{only, owned, peeks, heard, nothing, opens, closes}
pub use denote.Struct.Declared.{Declared}
pub use denote.Struct.Rest.{all_own, field_own, rest, own_open, own_out, own_shut}
pub use denote.Struct.Steps.{spelt}
pub use denote.Struct.Values.{Values}
pub use denote.Triple.Call.{calls_at}
pub use denote.Triple.Clauses.{Clauses, closing, ensured, lasts}
pub use denote.Triple.Entry.{on_entry}
pub use denote.Triple.Spec.{Meets, triple_of}
pub use denote.Triple.Statement.{Contract, Triple}
pub use denote.Triple.Table.{entered, cited}
pub use denote.Triple.Walked.{says, Stays, stay_none, walk_of, Goes-none, Walks, ends_at, walked, walk_Meets, stay_ref, Goes-ref, stay_none_slice}
pub use denote.Triple.Walked.{Goes-none_slice}
pub use ghost.Atoms.{Atoms}
pub use base.Fraction.{full_share, left as share_left, right as share_right}
pub use seplogic.Ra.Ura.{Ura}
pub use lib.Dec.{lit<}
pub use lib.ListN.{length}
pub use mathlib.Core.List.{List, [], ◌∷◌}
pub use mathlib.Core.Path.{◌≡◌, refl, sym, subst, ap, ◌∙◌}
pub use mir.Syntax.{Callee, Fn, Ty, named, erased, imm, mut, w8, w64, ty_int, ty_ref, ty_unit, ty_bool, field, place, copy, local, value_local, assign}
pub use mir.Syntax.{rv_opd, seq, call, return, deref, opd_unit}
pub use mir.Val.{Val, WT, has_ty, vint, vbool, vptr, vunit, vstruct, vnil, vcons}
pub use prog.Memory.{Memory}
pub use prog.Routine.{Routine}
pub use prog.Wp.{Heap, Calls, Loops, WpFn, Tables, Env}
pub use sound.WpLaws.{FmC, fm_of, WpFn-mono}
pub use types.Logic.{Logic, sem}
pub use types.Kit.{‵, ◌$◌, ◌∵◌, !, qed, move, use1, fsplit, fjoin, fpick, fpack, done, raw, ◌⊛◌, ⋆, some, later, by, keep, drop, use2, use3}
pub use types.Kit.{split, join, pick, feq_l, suffices, frame, await, fsplit3, fjoin3, feq_i, given, learn, Item, Post, runs, lands, Seq, rewrite, use0}
pub use types.Part.{whole, sub, look_in, agg, store_in}
pub use types.Run.{bin, assigns_last, look, init, forget, stop, fld, from, load, addr, of_opd, and_then, no_more, assigns, land, returns, enter}
pub use types.Run.{alloc1, alloc0, params1, pass1, pass0, free1, free0, store, hop, unit_lit, lit, Opds}
pub use types.SemTy.{Body}
pub use types.Tokens.{lft_new, lft_end}
