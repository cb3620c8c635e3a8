-- `change` does nothing when it runs, and afterwards its value is the next one.
use Rattle.std.proofs.Common.{List, [], ◌∷◌, refl}
use Rattle.std.proofs.raw_atomic.Walks.{proved}
use mir.Syntax.{a_type, dcons, dnil, named}
use mir.Val.{Val, vunit, vptr}
use mir.MapTy.{inst_fn}
use base.Logic.{emp}
use base.Fml.{Fml, fsep, flft, ftrue}
use contract.Running.{tables}
use types.Kit.{‵, raw, ◌⊛◌, ◌$◌, ◌∵◌, !, qed, move, keep, split, fsplit, fsplit3, fjoin, fjoin3, join, feq_i, suffices, done}
use types.Run.{unit_lit, of_opd, returns, enter}
use types.ByLocal.{alloc_all, pass_all, free_all, look_at, sets}
use denote.Exit.{yes}
use denote.RattleType.{RattleType, owns}
use denote.Signature.{types_at, plain}
use denote.Builtin.{RefOf}
use denote.Ref.{mut_vals, mut_Tells, shr_vals, shr_Tells}
use denote.Steps.{nothing, opens, closes}
use denote.Param.{param, bounded}
use denote.Triple.Walked.{Stays, stay_dropped, stay_ref, walk_of, Goes-dropped, Goes-ref, says, ends_at}
use Rattle.std.specs.contracts.snapshot.Snapshot as Snapshot
use Rattle.ghost_lists.specs.contracts.change.{ended, clauses}
use Rattle.ghost_lists.specs.contracts.change.Key.{name as #self}
use Rattle.ghost_lists.proofs.change.Statement.{statement}
use Rattle.ghost_lists.proofs.change.Code as code

pub change_spec : {M : Type 1} → statement M
change_spec 𝓤 𝓛 𝓜 𝓡 wired A T _ _ g d _ =
    let H = 𝓛.H in let 𝓣 = tables 𝓤 H 𝓜 𝓡 𝓡.env in let A' : RattleType = param 0 A in let T' : RattleType = param 1 T in let En = ended A T g d in
    let inst = bounded (a_type ∷ a_type ∷ []) (A, (T, tt)) (dcons d dnil) in let fn = inst_fn inst code.function in
    let c = clauses A T g d 𝓛 𝓜.mem 𝓡.returns in let R : RattleType = Snapshot.the_row T' in
    let hs : Stays En.signature.params En.kept = (stay_ref (0 ∷ []) tt (plain (λ _. R)), (stay_dropped (RefOf (1 ∷ []) tt (plain (λ _. A')) (λ _. tt)) yes, tt)) in
    proved 𝓛 En hs c 𝓜 𝓡 (Goes-ref 𝓛 4 0 tt (plain (λ _. R)), (Goes-dropped 𝓛 4 (RefOf (1 ∷ []) tt (plain (λ _. A')) (λ _. tt)) yes (λ κs x f. refl), tt))
    (#self inst) fn (code.unfolded 𝓤 H 𝓜 𝓡 wired (A, (T, tt)) d)
    (λ κs. (mut_vals, (shr_vals, tt))) (λ κs. (mut_Tells (named 0) κs.0 R, (shr_Tells (named 1) κs.1.0 A', tt))) (λ κs qs bounds a gh are.
    let b = a.0.ref_ptr.0 in let o = a.0.ref_ptr.1 in
    let y : (walk_of 𝓛 En hs c).Ghost = ((κs, qs, bounds, a, (vptr b o ∷ [], (vptr a.1.0.ref_ptr.0 a.1.0.ref_ptr.1 ∷ [], tt))), gh) in
    let Post : Val → base.Logic.SProp 𝓤 = (walk_of 𝓛 En hs c).post y in
    let grown : R.Denot = record { marker = record {}; value = g.with a.0.now.value a.1.0.now } in
    let toks : Fml = fsep (flft κs.0 qs.0) (fsep (flft κs.1.0 qs.1.0) (fsep (flft κs.1.1.0 qs.1.1.0) (fsep (flft κs.1.1.1.0 qs.1.1.1.0) ftrue))) in
    qed 𝓛 ((‵ toks ⊛ ‵ (owns (types_at En.signature.params κs) a y.0.4)) ∷ raw ((c κs a).requires gh) ∷ []) ∵ keep ! (0 ∷ []) $ split ! $
    -- [the first token; the second one; the others; three parts of `of`]
    fsplit ! $ move ! (1 ∷ []) $ fsplit ! $ move ! (3 ∷ []) $ fsplit ! $ fsplit3 ! $ keep ! (1 ∷ 2 ∷ 6 ∷ 4 ∷ 5 ∷ []) $
    enter ! 𝓣.C 𝓣.Λ fn (vptr b o ∷ vptr a.1.0.ref_ptr.0 a.1.0.ref_ptr.1 ∷ []) Post $ alloc_all ! (λ l. pass_all ! refl ((tt, tt), ((tt, tt), tt)) $
    opens ! tt R b o (λ us. closes ! tt R grown us b o $
    sets ! (of_opd ! (unit_lit !)) refl (tt, tt) $ feq_i ! (List Val) (vunit ∷ []) (vunit ∷ []) refl $
    move ! (4 ∷ 5 ∷ []) $ fjoin ! $ move ! (4 ∷ 0 ∷ []) $ fjoin ! $ nothing ! $ nothing ! $ fjoin ! $
    feq_i ! (List Val) (vptr b o ∷ []) (vptr b o ∷ []) refl $ move ! (0 ∷ 4 ∷ 5 ∷ []) $ fjoin3 ! $ fjoin ! $
    returns ! (look_at ! 0 refl) $ free_all ! refl $
    suffices ! _ (ends_at 𝓛 En hs c y vunit tt (grown, (tt, tt)) (tt, (tt, tt))) $ says ! refl $
    move ! (0 ∷ 2 ∷ []) $ join ! $ move ! (1 ∷ 0 ∷ []) $ join ! $ done !)))
