-- The names that walks cite.
pub use mathlib.Core.Path.{◌≡◌, refl, sym, ap, subst, ◌∙◌}
pub use mathlib.Core.Bool.{Bool, true, false}
pub use mathlib.Core.List.{List, [], ◌∷◌, ◌++◌}
pub use Prim.Native.Nat.{ℕ, zero, suc, ◌+◌, ◌*◌, ◌-◌, ◌<◌, ◌≤◌, ◌^◌}
pub use native.Mathlib.Omega.{arith}
pub use lib.Dec.{T, lit<}
pub use lib.ListN.{length, get_or, set, length-set}
pub use seplogic.Ra.Ura.{Ura}
pub use mir.Syntax.{Fn, Ty, Args, named, ty_array, ty_ptr, w64}
pub use mir.MapTy.{inst_fn}
pub use mir.Raw.{raw as bare}
pub use mir.Val.{Val, vint, vptr, vunit, vstruct, vcons, vnil, of_list, has_ty, WT}
pub use base.Fraction.{full_share}
pub use base.Fml.{Fml, GName, Lft, Share, fat, fauth, fbor, flft, fobor, fobs, froom, fsep, ftrue, fwand}
pub use base.Logic.{SProp, ent, sep, emp, never, via, fst∗, snd∗, mono_r, id⊢, apply∗}
pub use prog.Memory.{Memory, size}
pub use prog.Routine.{Routine}
pub use prog.Wp.{Calls, Env, Loops, Tables, WpFn}
pub use contract.Monad.{Fun, fact, fact_i, fact_use}
pub use contract.BorrowLft.{◌⊑◌}
pub use contract.Running.{tables}
unfoldable pub use contract.Running.{tables_of}
pub use sound.WpLaws.{FmC, WpFn-mono, fm_of}
pub use types.Logic.{Logic, sem}
pub use types.SemTy.{Body as Borrowed}
pub use types.Kit.{Goal, Item, Seq, Soaks, Step, step, ⋆, ‵, raw, ◌⊛◌, some, later, given, at_ret, ◌$◌, ◌∵◌, !, qed, by}
pub use types.Kit.{move, keep, drop, use0, use1, use2, split, split3, join, group, pick, learn, await, rewrite}
pub use types.Kit.{suffices}
pub use types.Kit.{frame, assume, done, fsplit, fsplit3, fjoin, fjoin3, fpick, fpack, feq_i, feq_l, flt_i, flt_l}
pub use types.Part.{whole, sub, look_in, agg}
pub use types.Run.{addr, and_then, assigns_last, bin, blocks, enter, exec, first, fld, hop, init, lit, load, look}
pub use types.Run.{no_more, num_lit, of_opd, returns, size_lit, stop, unit_lit, well_typed}
pub use types.ByLocal.{alloc_all, env, free_all, get, get_in, lands_as, lands_last, look_at, pass_all, sets, sets_last}
pub use types.ByLocal.{through}
pub use borrow.Table.OneValue.{part_in, part_out}
pub use denote.RattleType.{RattleType, Valss, owns}
pub use denote.Param.{Types, layout, layouts, number, param, value_of}
pub use denote.Param.Laws.{Laws, IsNumber, param_laws}
pub use denote.Memory.{cell_at, hidden_shr, lone, mem, part_at, shares}
unfoldable pub use denote.Memory.{part_of}
pub use denote.Array.{Array}
pub use denote.Builtin.{usize, unit, RefOf}
pub use denote.Copied.{plain_Copied}
pub use denote.Exit.{no, yes}
pub use denote.Follow.{follows, lends_Part}
pub use denote.Opens.{Shut, hide, unhide}
pub use denote.RawPtr.{Ptr, RawPtr, block_ptr, coded_ptr, null_ptr, ptr_own, ptr_val, rawptr_pure}
pub use denote.RawPtr.{in_a_block, lies_at, ◌+ₚ◌}
pub use denote.Ref.{Bor, MutBor, MutRef, ShrRef}
pub use denote.Signature.{mut_ref_to, plain}
pub use denote.Slice.{ShrSlice, slice_val}
pub use denote.Steps.{closes, looks, nothing, only, opens, shuts}
pub use denote.Struct.Laws.{RawPtr-laws}
pub use denote.Triple.Call.{calls_at, calls_at_last}
pub use denote.Triple.Clauses.{Clauses, Ended, closing}
pub use denote.Triple.Entry.{on_entry}
pub use denote.Triple.Spec.{Meets, triple_of}
pub use denote.Triple.Statement.{Triple}
pub use denote.Triple.Table.{entered}
pub use denote.Triple.Walked.{Stays, stay_dropped, stay_ref, walk_of, walk_Meets, ends_at, says}
pub use denote.Triple.Walked.{Goes-dropped, Goes-ref, Goes-spent_ref}
pub use Rattle.core.proofs.alloc.Calls.{Goes-blank}
pub use Rattle.core.proofs.mem.Timeless.{timeless, timeless_laws}
pub use Rattle.core.proofs.ptr.Rows.{one_below, times_below}
pub use Rattle.core.proofs.slice.Lists.{any-default, hd}
pub use Rattle.std_alloc.specs.Vec.Ownership.{FitsInBlock, lodged}
pub use Rattle.std_alloc.specs.declared.vec.Vec.{Vec}
pub use Rattle.std_alloc.specs.declared.vec.lodged.Lodged.{Lodged}
pub use Rattle.std_alloc.proofs.RawLayout.{as_raw, as_written}
pub use Rattle.std_alloc.proofs.RcSteps.{Good, word}
pub use Rattle.std_alloc.proofs.ResultValues.{and_tt}
pub use Rattle.std_alloc.proofs.VecSteps.Shapes.{after}
pub use Rattle.std_alloc.proofs.VecSteps.El.{El, elτ, no_al, sz, wider}
pub use Rattle.std_alloc.proofs.VecSteps.Opens.{blk_in, blk_out}
pub use Rattle.std_alloc.proofs.VecSteps.Rows.{put_in, take_out}
pub use Rattle.std_collections.proofs.TreeMemory.Lodging.{Row, row_laws, tells, lodge_key, Lodges, at_lodge, Lodged_as}
pub use Rattle.std_collections.proofs.TreeMemory.Lodging.{lodge_gives, two_made, dislodge_key, Dislodges, at_dislodge}
pub use Rattle.std_collections.proofs.TreeMemory.Lodging.{dislodge_goes, dislodge_gives}
pub use Rattle.std_collections.proofs.TreeMemory.Owned.{word_had, word_made}
pub use Rattle.std_collections.proofs.TreeMemory.Rooms.{row_of_room, room_of_row}
