-- A function that casts a `&` to one to another type meets its contract, if the first holds what the second does.
-- Assumes `Logic`.
use Rattle.tz_rule.proofs.Common.{◌≡◌, ℕ, refl, List, [], ◌∷◌, !, done, ftrue, hidden_shr, move, nothing, qed, ‵, ◌$◌, ◌∵◌, Body, Callee, Fn, Lft, Val, addr_of, assign, at_ret, block, copy, deref, ent, erased, feq_i, fjoin, flft, fsplit, heard, imm, join, keep, local, lone, named, place, pointee, raw, return, rewrite, rv_opd, seq, split, suffices, ty_ptr, ty_ref, use1, value_local, vptr, ◌⊛◌}
use Rattle.std.proofs.raw_atomic.Walks.{proved}
use seplogic.Ra.Ura.{Ura}
use contract.Monad.{fact}
use contract.Running.{Running, MachineTables, tables}
use denote.Exit.{yes}
use denote.RattleType.{RattleType, owns}
use denote.Ref.{ShrRef, shr_vals, shr_Tells}
use denote.Signature.{plain, shr_ref_to}
use denote.Triple.Clauses.{Ended, Clauses, closing}
use denote.Triple.Spec.{Meets}
use denote.Triple.Walked.{Stays, walk_of, stay_dropped, says, ends_at, Goes-dropped}
use prog.Model.{Model}
use prog.Wp.{Closed}
use types.ByLocal.{alloc_all, pass_all, free_all, look_at, get, through, sets, sets_last, env}
use types.Logic.{Logic, sem}
use types.Run.{enter, addr, stop, of_opd, first, blocks, exec, returns}

module _ (R S : RattleType) where
  abbrev hands_on : Body
  hands_on = seq (assign (place 0 []) (rv_opd (copy (place 2 [])))) return

  -- `unsafe { &*(x as *const R as *const S) }` of its parameter x
  abbrev pub cast : Fn
  cast = record {
    lifetimes = 1;
    outlives = [];
    ty_params = [];
    givens = 0;
    params = 1;
    locals = local (ty_ref (named 0) imm (pointee S.written)) value_local
        ∷ local (ty_ref (named 0) imm (pointee R.written)) value_local ∷ local (ty_ref erased imm (pointee S.written))
        value_local ∷ local ty_ptr value_local ∷ local ty_ptr value_local ∷ [];
    body = seq
        (block (seq (assign (place 3 []) (addr_of (place 1 (deref (lone R.mir) ∷ []))))
        (seq (assign (place 4 []) (rv_opd (copy (place 3 []))))
        (assign (place 2 []) (addr_of (place 4 (deref (lone S.mir) ∷ [])))))))
        hands_on;
  }

  abbrev ended : Ended
  ended = record {
    signature = record {
      lifetimes = 1;
      outlives = [];
      params = shr_ref_to (0 ∷ []) tt (plain (λ _. R)) ∷ [];
      result = shr_ref_to (0 ∷ []) tt (plain (λ _. S));
    };
    kept = (yes, tt);
  }

  abbrev stayed : Stays ended.signature.params ended.kept
  stayed = (stay_dropped _ yes, tt)

  -- from the value x to the value z
  abbrev spec : {M : Type 1} (𝓤 : Ura M) → R.Denot → S.Denot → Clauses 𝓤 ended
  spec 𝓤 x z κs a = record {
    ghost = Unit {0};
    requires = λ _. fact 𝓤 (a.0.now ≡ x);
    ensures = λ _ r _. fact 𝓤 (r.now ≡ z);
  }

  module _ {M : Type 1} {𝓤 : Ura M} (𝓛 : Logic 𝓤) (𝓜 : Model 𝓤 𝓛.H) (𝓡 : Running 𝓤 𝓛.H 𝓜) (x : R.Denot)
      (z : S.Denot) where
    abbrev 𝓣 : MachineTables 𝓤 𝓛.H 𝓜
    𝓣 = tables 𝓤 𝓛.H 𝓜 𝓡 𝓡.env

    pub cast_Meets : (k : Callee) → Closed 𝓤 𝓛.H 𝓣.C 𝓣.Λ k cast
        → ((κ : Lft) (b o : ℕ) → ent 𝓤 (sem 𝓛 (hidden_shr R κ x b o)) (sem 𝓛 (hidden_shr S κ z b o)))
        → Meets 𝓛 ended.signature (𝓣.C k) (closing 𝓛 ended (spec 𝓤 x z))
    cast_Meets k closed holds =
        let c = spec 𝓤 x z in let W = walk_of 𝓛 ended stayed c in
        proved 𝓛 ended stayed c 𝓜 𝓡 (
          Goes-dropped 𝓛 1 (shr_ref_to (0 ∷ []) tt (plain (λ _. R))) yes (λ κs x w. refl),
          tt,
        ) k cast closed
        (λ κs. (shr_vals, tt)) (λ κs. (shr_Tells (named 0) κs.0 R, tt)) (λ κs qs bounds a g are.
        let κ = κs.0 in let q = qs.0 in let b = a.0.ref_ptr.0 in let o = a.0.ref_ptr.1 in
        let y : W.Ghost = ((κs, qs, bounds, a, (shr_vals a.0, tt)), g) in
        qed 𝓛 (((‵ (flft κ q) ⊛ ‵ ftrue) ⊛ ‵ (owns (ShrRef (named 0) κ R ∷ []) a y.0.4)) ∷ raw (fact 𝓤 (a.0.now ≡ x))
        ∷ []) ∵ move ! (1 ∷ []) $ heard ! _ (λ e.
        split ! $ split ! $ move ! (2 ∷ []) $ fsplit ! $ fsplit ! $ keep ! (1 ∷ 3 ∷ []) $
        -- [what the `&` holds; the token]
        rewrite ! 0 (λ (w : R.Denot). ‵ (hidden_shr R κ w b o)) e refl $ use1 𝓛 (‵ (hidden_shr S κ z b o))
        (holds κ b o) $
        enter ! _ _ _ _ _ $ alloc_all ! (λ l. pass_all ! refl ((tt, tt), tt) $
        first ! $ blocks ! $ sets ! (addr ! (through ! refl (stop !))) refl (tt, tt) $ sets !
        (of_opd ! (get ! refl)) refl (tt, tt) $ sets_last ! (addr ! (through ! refl (stop !))) refl (tt, tt) $
        exec ! 𝓣.C 𝓣.Λ (env cast.locals l) hands_on (at_ret _ (W.post y)) $ sets ! (of_opd ! (get ! refl)) refl
        (tt, tt) $
        returns ! (look_at ! 0 refl) $ free_all ! refl $
        suffices ! _ (ends_at 𝓛 ended stayed c y (vptr b o) (record { ref_ptr = (b, o); now = z }) (tt, tt) (tt, tt)) $
        says ! refl $
        feq_i ! (List Val) (vptr b o ∷ []) (vptr b o ∷ []) refl $ fjoin ! $ nothing ! $ nothing ! $ fjoin ! $ join ! $
        nothing ! $ move ! (2 ∷ 0 ∷ []) $ join ! $ join ! $ done !)))
