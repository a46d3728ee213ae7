-- A search returns the slots under their name, or they are let go with the fault and end as they were left.
use Rattle.tz.proofs.Common.{refl, [], ◌∷◌, Err, Result, Ok, lit<}
use Rattle.std.specs.contracts.result.Result as result
use Rattle.tz_base.specs.contracts.error.TzError as fault
use Rattle.tz_base.proofs.error.TzError.TheLaws as fault_laws
use Rattle.tz.specs.contracts.datetime.find.Refused as refused
use Rattle.tz.specs.contracts.datetime.found.FoundDateTimeListRefMut as list
use Rattle.tz.specs.contracts.datetime.date_time.DateTime.find_n as f
use Rattle.tz.specs.contracts.datetime.date_time.DateTime.listed as g
use Rattle.tz.proofs.datetime.find.Refused.TheLaws as refused_laws
use Rattle.tz.proofs.datetime.found.FoundDateTimeListRefMut.TheLaws as list_laws
use Rattle.tz.proofs.SearchParameters.{params, stayed, spelled, spelled_tells, gone, lawful}
use Rattle.tz.proofs.datetime.date_time.DateTime.listed.Met.{met}
use Rattle.tz.proofs.datetime.date_time.DateTime.find_n.Statement.{statement}
use Rattle.tz.proofs.datetime.date_time.DateTime.find_n.Code as code
use Rattle.tz.proofs.BorrowedSlots.{by_result, if_ok_at, if_err_at, ok_outcome, err_outcome, slice_ends, ends_in, ends_as, variant_typed, heard_first, told, ok_taken, err_taken, fact_and, fact_last, proved, ok_of, err_of, arm_body, TzError, fields_of, slot_row, RestsIfInvalid, reference_of, Refused, FoundDateTimeListRefMut, named, Val, of_list, SProp, id⊢, GName, fres, Env, Wp, at_return, after_seq, Lfts, tables, Array, lone, RattleType, valss, all_Typed, named_lft, types_at, heard, nothing, calls_at, Lasts, lasts, at_exit, alive, triple_of, framed, walk_of, ends_at, Post, any_q, ‵, raw, ◌⊛◌, some, later, at_ret, ◌$◌, ◌∵◌, !, qed, by, move, drop, use0, use1, split, fsplit, fjoin, fpick, pick, await, rewrite, group, frame, suffices, enter, of_opd, addr, from, fld, hop, stop, first, switches_on, exec, returns, no_more, and_then, lit, whole, sub, agg, live, vrt, in_variant, alloc_all, pass_all, free_all, look_at, look_in_at, get, get_in, get_tag, sets, sets_last, lands_as, env}

abbrev Found : Type 0
Found = FoundDateTimeListRefMut

abbrev found_row : Lfts 2 → RattleType
found_row κs = list.the_row (named_lft 2 0 tt κs)

abbrev refused_row : Lfts 2 → RattleType
refused_row κs = refused.the_row (named_lft 2 0 tt κs)

pub find_n_spec : {M : Type 1} → statement M
find_n_spec 𝓤 𝓛 𝓜 𝓡 wired =
    let c = f.clauses 𝓛 𝓜.mem 𝓡.returns in let W = walk_of 𝓛 f.ended stayed c in let 𝓣 = tables 𝓤 𝓛.H 𝓜 𝓡 𝓡.env in
    let G = triple_of 𝓛 g.signature (g.spec 𝓛 𝓜.mem 𝓡.returns) in
    proved 𝓛 f.ended stayed c 𝓜 𝓡 (gone 𝓛) f.Key.name code.function (code.unfolded 𝓤 𝓛.H 𝓜 𝓡 wired) spelled
    spelled_tells (λ κs qs bounds a _ are.
    let fields = fields_of a.1.0 a.1.1.0 a.1.1.1.0 a.1.1.1.1.0 a.1.1.1.1.1.0 a.1.1.1.1.1.1.0 a.1.1.1.1.1.1.1.0 in
    let words = valss (types_at params κs) (spelled κs) a in let z : G.Ghost = ((κs, qs, bounds, a, words), tt) in
    let left : Lasts f.ended κs a = (tt, (tt, (tt, (tt, (tt, (tt, (tt, (tt, (tt, tt))))))))) in
    let End : Val → SProp 𝓤 = W.post ((κs, qs, bounds, a, words), tt) in
    let typed_all = all_Typed 𝓛 (types_at params κs) (lawful 𝓛 κs) a words are in let buf_typed = typed_all.0 in
    let zone_typed = typed_all.1.1.1.1.1.1.1.1.0 in
    qed 𝓛 (raw (G.pre z) ∷ []) ∵ enter ! _ _ _ _ _ $
    alloc_all ! (λ l. pass_all ! refl typed_all $
    let En : Env 𝓤 𝓛.H = env (code.function).locals l in
    let Then : Post 𝓤 𝓛.H = any_q (after_seq 𝓤 𝓛.H (Wp 𝓤 𝓛.H 𝓣.C 𝓣.Λ En code.Mir.t-6 (at_return 𝓤 𝓛.H En End))
    (at_return 𝓤 𝓛.H En End)) in
    -- the call, which takes all that there is
    sets ! (addr ! (from ! (fld ! refl (hop ! (look_in_at ! 1 (sub ! 0 refl (whole !))) (stop !))))) refl (tt, tt) $
    sets ! (agg ! (and_then ! (get ! refl) (and_then ! (get_in ! (fld ! refl (stop !)) (sub ! 1 refl (whole !)))
    (no_more !)))) refl buf_typed $
    sets ! (of_opd ! (get ! refl)) refl zone_typed $
    calls_at ! (framed 𝓤 𝓛.H 𝓜 (tables 𝓤 𝓛.H 𝓜 𝓡 𝓡.env)) G
    (met 𝓤 𝓛 𝓜 𝓡 (code.calls-tz::datetime::date_time::DateTime::listed 𝓡.env wired)) z
    (and_then ! (get ! refl) (and_then ! (get ! refl)
    (and_then ! (get ! refl) (and_then ! (get ! refl)
    (and_then ! (get ! refl) (and_then ! (get ! refl)
    (and_then ! (get ! refl) (and_then ! (get ! refl) (and_then ! (get ! refl) (no_more !)))))))))) (λ v.
    use1 𝓛 (later (some (λ (r : Result Found Refused).
    (raw (alive 𝓛 g.signature κs qs) ⊛ ‵ ((result.the_row (found_row κs) (refused_row κs)).own_val r (v ∷ []))) ⊛
    some (λ (ws : Lasts g.ended κs a). ‵ (lasts g.ended κs a ws) ⊛ raw ((g.clauses 𝓛 𝓜.mem 𝓡.returns κs a).ensures tt r
    (at_exit g.ended κs a ws)))))) (id⊢ 𝓤 _) $
    await ! tt $ pick ! (λ r. split ! $ move ! (1 ∷ []) $ pick ! (λ ws. split ! $ drop ! $
    heard_first ! _ _ (λ same. heard_first ! _ _
    (λ ok. heard_first ! _ _ (λ same'. heard_first ! _ _ (λ untouched. heard ! _ (λ outcome.
    split ! $ move ! (1 ∷ []) $ by_result r
    -- [the list; the tokens]
    (λ list e. ok_taken (found_row κs) (refused_row κs) ! list_laws.lowered
    (list_laws.lowers (named_lft 2 0 tt κs)).val_is list e v (λ is owned.
    let w : Val = list_laws.lowered list in let out : Result Found TzError = Ok list in
    let typed = (((list_laws.the_row_laws (named_lft 2 0 tt κs)).lawful 𝓛).typed list _ owned).0 in
    let ok_typed = variant_typed (lone (found_row κs).mir) 0 w (lit< tt) typed in
    lands_as ! is refl ok_typed $
    first ! $ switches_on ! (get_tag ! (vrt ! refl (fld ! refl (stop !))) (whole !)) $ exec ! 𝓣.C 𝓣.Λ En
    (arm_body 0 code.Mir.s-5) Then $
    sets ! (of_opd ! (get_in ! (vrt ! refl (fld ! refl (stop !))) (in_variant ! 0 0 refl refl (whole !)))) refl typed $
    sets ! (of_opd ! (get ! refl)) refl typed $
    sets_last ! (agg ! (and_then ! (lit ! tt) (and_then ! (get ! refl) (no_more !)))) refl ok_typed $
    exec ! 𝓣.C 𝓣.Λ En code.Mir.t-6 (at_ret En End) $
    sets ! (of_opd ! (get ! refl)) refl ok_typed $
    returns ! (look_at ! 0 refl) $ free_all ! refl $
    use1 𝓛 (‵ ((result.the_row (found_row κs) fault.the_row).own_val out (live 0 (of_list (w ∷ [])) ∷ [])))
    (ok_of 𝓛 (found_row κs) fault.the_row list w) $
    use0 𝓛 (‵ (RestsIfInvalid reference_of a.0 fields out)) (ends_in 𝓛 (Array slot_row 0) _ _ _ _ (if_ok_at _ e same)
    (λ n. refl) [] tt) $
    suffices ! _ (ends_at 𝓛 f.ended stayed c ((κs, qs, bounds, a, words), tt) (live 0 (of_list (w ∷ [])))
    out left left) $
    nothing ! $ nothing ! $ fjoin ! $ nothing ! $ fjoin ! $ nothing ! $ fjoin ! $ nothing ! $ fjoin ! $ nothing ! $
    fjoin ! $ nothing ! $ fjoin ! $ nothing ! $ fjoin ! $ nothing ! $ fjoin ! $ nothing ! $ fjoin ! $ move !
    (3 ∷ 0 ∷ 2 ∷ []) $ group ! 3 $ frame ! $ frame ! $
    by ! (fact_and 𝓤 (if_ok_at _ e same) (fact_and 𝓤 (if_ok_at _ e ok)
    (fact_last 𝓤 (ok_outcome e outcome))))))
    (λ refused e. err_taken (found_row κs) (refused_row κs) ! (refused_laws.lowered (named_lft 2 0 tt κs))
    (refused_laws.lowers (named_lft 2 0 tt κs)).val_is refused e v (λ is owned.
    let w : Val = refused_laws.lowered (named_lft 2 0 tt κs) refused in
    let u : Val = fault_laws.lowered refused.fault in let out : Result Found TzError = Err refused.fault in
    let typed = (((refused_laws.the_row_laws (named_lft 2 0 tt κs)).lawful 𝓛).typed refused _ owned).0 in
    lands_as ! is refl (variant_typed (lone (refused_row κs).mir) 1 w (lit< tt) typed) $
    first ! $ switches_on ! (get_tag ! (vrt ! refl (fld ! refl (stop !))) (whole !)) $ exec ! 𝓣.C 𝓣.Λ En
    (arm_body 1 code.Mir.s-5) Then $
    sets ! (of_opd ! (get_in ! (vrt ! refl (fld ! refl (stop !))) (in_variant ! 1 0 refl refl (whole !)))) refl typed $
    -- [the fault; the slots; the tokens]
    fpick ! (λ vss. fsplit ! $ drop ! $ fsplit ! $ move ! (1 ∷ []) $ fsplit ! $ move ! (1 ∷ []) $ drop ! $
    told ! fault.the_row fault_laws.lowered fault_laws.lowers.val_is refused.fault vss.1.0 (λ is' owned'.
    let fault_typed = ((fault_laws.the_row_laws.lawful 𝓛).typed refused.fault _ owned').0 in
    let err_typed = variant_typed (lone (fault.the_row).mir) 1 u (lit< tt) fault_typed in
    sets ! (of_opd ! (get_in ! (fld ! refl (stop !)) (sub ! 1 refl (whole !)))) refl fault_typed $
    sets_last ! (agg ! (and_then ! (lit ! tt) (and_then ! (get ! refl) (no_more !)))) refl err_typed $
    exec ! 𝓣.C 𝓣.Λ En code.Mir.t-6 (at_ret En End) $
    sets ! (of_opd ! (get ! refl)) refl err_typed $
    returns ! (look_at ! 0 refl) $ free_all ! refl $
    use1 𝓛 (‵ ((result.the_row (found_row κs) fault.the_row).own_val out (live 1 (of_list (u ∷ [])) ∷ [])))
    (err_of 𝓛 (found_row κs) fault.the_row refused.fault u) $
    move ! (1 ∷ []) $ use1 𝓛 (‵ (fres refused.buf.ghost_name ((Array slot_row 0).coded.code refused.buf.now)))
    (slice_ends 𝓛 slot_row (named 0) κs.0 refused.buf vss.0) $
    rewrite ! 0 (λ (γ : GName). ‵ (fres γ ((Array slot_row 0).coded.code refused.buf.now))) (if_err_at _ e same') refl $
    use1 𝓛 (‵ (RestsIfInvalid reference_of a.0 fields out)) (ends_as 𝓛 (Array slot_row 0) _ _ _ refused.buf.now
    (λ w. tt) (if_err_at _ e untouched)) $
    suffices ! _ (ends_at 𝓛 f.ended stayed c ((κs, qs, bounds, a, words), tt) (live 1 (of_list (u ∷ [])))
    out left left) $
    nothing ! $ nothing ! $ fjoin ! $ nothing ! $ fjoin ! $ nothing ! $ fjoin ! $ nothing ! $ fjoin ! $ nothing ! $
    fjoin ! $ nothing ! $ fjoin ! $ nothing ! $ fjoin ! $ nothing ! $ fjoin ! $ nothing ! $ fjoin ! $ move !
    (3 ∷ 0 ∷ 2 ∷ []) $ group ! 3 $ frame ! $ frame ! $
    by ! (fact_and 𝓤 tt (fact_and 𝓤 tt (fact_last 𝓤
    (err_outcome e outcome))))))))))))))))))
