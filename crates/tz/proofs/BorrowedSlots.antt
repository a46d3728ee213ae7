-- Steps of the proofs by hand of `find_n` and `find_n_counted`: what a borrowed slice ends as, and the two cases of a
-- `Result`. The words of the logic that both take pass through here.
use Rattle.tz.proofs.Common.{refl, ◌≡◌, subst, ◌∙◌, sym, [], ap, ℕ, ◌∷◌, ◌<◌, List, Fields, Zone, ◌++◌, ◌^◌, true, IsOutcome, Err, Result, Ok, IfErr, IfOk, Logic, OnOk, T, Ura, MutSlice, sem}
use Rattle.std.proofs.Common.{◌&&◌}
pub use Rattle.std.proofs.ResultValues.{and_tt, ok_of, err_of}
pub use Rattle.std.proofs.VecSteps.Shapes.{arm_body}
pub use Rattle.std.proofs.raw_atomic.Walks.{proved}
pub use Rattle.tz_base.specs.Fields.{fields_of}
pub use Rattle.tz.specs.BorrowedSlots.{slot_row, RestsIfInvalid}
pub use Rattle.tz.specs.Lists.{reference_of}
pub use Rattle.tz.specs.declared.datetime.find.Refused.{Refused}
pub use Rattle.tz.specs.declared.datetime.found.FoundDateTimeListRefMut.{FoundDateTimeListRefMut}
pub use Rattle.tz_base.specs.declared.error.TzError.{TzError}
pub use base.Fml.{Lft, Fml, feq, fex, fsep, fobs, fauth, GName, fres}
pub use base.Logic.{ent, sep, emp, wand, via, ex_i, emp∗, mono∗, SProp, id⊢}
use base.Stored.{coded_list}
pub use contract.Lifetimes.{Lfts}
use contract.Monad.{fact, fact_i}
pub use contract.Running.{tables}
pub use denote.Array.{Array}
use denote.Follow.{follows, follows_so, such_by, follows_by}
use denote.FollowSlice.{heres_id}
pub use denote.Laws.{Is, Tells, shows, valss, all_Typed}
pub use denote.Memory.{lone}
pub use denote.RattleType.{RattleType}
use denote.Ref.{MutBor}
pub use denote.Signature.{named_lft, types_at}
pub use denote.Steps.{peeks, only, heard, nothing}
pub use denote.Triple.Call.{calls_at}
pub use denote.Triple.Clauses.{Lasts, lasts, at_exit}
pub use denote.Triple.Entry.{alive}
pub use denote.Triple.Spec.{triple_of}
pub use denote.Triple.Table.{framed}
pub use denote.Triple.Walked.{walk_of, ends_at}
pub use mir.Syntax.{Lifetime, Ty, named}
pub use mir.Val.{has_ty, WT, Val, of_list}
pub use prog.Wp.{Env, Wp, at_return, after_seq}
pub use types.ByLocal.{alloc_all, pass_all, free_all, look_at, look_in_at, get, get_in, get_tag, sets, sets_last, lands_as, env}
pub use types.Kit.{Item, Goal, Seq, keep, each, assume, fpack, feq_i, feq_l, done, ‵, raw, ◌⊛◌, ◌$◌, ◌∵◌, !, qed, move, drop, use1, split, rewrite, fsplit, fjoin, fpick, Post, any_q, some, later, at_ret, by, use0, pick, await, group, frame, suffices}
pub use types.Match.{live, vrt, in_variant}
pub use types.Part.{whole, sub, agg}
pub use types.Run.{enter, of_opd, addr, from, fld, hop, stop, first, switches_on, exec, returns, no_more, and_then, lit}
use mathlib.Core.Option as maybe
use Rattle.std.specs.contracts.result.Result as result

-- the two cases of a result, with what it then is
pub by_result : {A E : Type 0} {X : Type 1} (r : Result A E) → ((x : A) → r ≡ Ok x → X) → ((e : E) → r ≡ Err e → X) → X
by_result (Ok x) ok err = ok x refl
by_result (Err e) ok err = err e refl

-- what holds of a result holds of its value
pub if_ok_at : {A E : Type 0} (φ : A → Type 0) {r : Result A E} {x : A} → r ≡ Ok x → IfOk r φ → φ x
if_ok_at φ e h = subst (λ z. IfOk z φ) e h

pub on_ok_at : {A E : Type 0} (φ : Type 0) {r : Result A E} {x : A} → r ≡ Ok x → OnOk r φ → φ
on_ok_at φ e h = subst (λ z. OnOk z φ) e h

pub if_err_at : {A E : Type 0} (φ : E → Type 0) {r : Result A E} {x : E} → r ≡ Err x → IfErr r φ → φ x
if_err_at φ e h = subst (λ z. IfErr z φ) e h

-- a search that succeeded has one outcome, whatever it returns
pub ok_outcome : {X X' E E' : Type 0} {fault_of : E → TzError} {fault_of' : E' → TzError} {m : Type 0} {z : Zone}
    {f : Fields} {r : Result X E} {x : X} {x' : X'} → r ≡ Ok x → IsOutcome fault_of m z f r
    → IsOutcome fault_of' m z f (Ok x')
ok_outcome e h = record {
  valid = on_ok_at _ e h.valid;
  made = on_ok_at _ e h.made;
  promised = λ _. tt;
  err = tt;
}

-- and so has one that was refused
pub err_outcome : {X X' E : Type 0} {fault_of : E → TzError} {m : Type 0} {z : Zone} {f : Fields} {r : Result X E}
    {x : E} → r ≡ Err x → IsOutcome fault_of m z f r → IsOutcome {X = X'} (λ e. e) m z f (Err (fault_of x))
err_outcome e h = record {
  valid = tt;
  made = tt;
  promised = λ p. if_err_at _ e (h.promised p);
  err = if_err_at _ e h.err;
}

module _ {M : Type 1} {𝓤 : Ura M} (𝓛 : Logic 𝓤) (R : RattleType) where
  open 𝓛 use {A}

  -- a slice that is let go says what its name ends at
  pub slice_ends : (ℓ : Lifetime) (κ : Lft) (x : MutBor (List R.Denot)) (vs : List Val)
      → ent 𝓤 (sem 𝓛 ((MutSlice ℓ κ R).own_val x vs)) (A.res x.ghost_name ((Array R 0).coded.code x.now))
  slice_ends ℓ κ x vs =
      qed 𝓛 (‵ ((MutSlice ℓ κ R).own_val x vs) ∷ []) ∵ fsplit ! $ drop ! $ fsplit ! $
      rewrite ! 0 (λ (l : List R.Denot). ‵ (fobs x.ghost_name ((coded_list R.coded).code l))) (heres_id R x.now) refl $
      use1 𝓛 (‵ (fres x.ghost_name ((coded_list R.coded).code x.now)))
      (𝓛.names.obs-res x.ghost_name ((coded_list R.coded).code x.now)) $ keep ! (0 ∷ []) $ done !

  module _ (γ : GName) (P : R.Denot → R.Denot → Type 0) (P₀ : R.Denot → Type 0) where
    tells : (m : maybe.Option GName) (F : R.Denot → R.Denot) (v : R.Denot) → ((w : R.Denot) → P w (F w)) → P₀ v
        → ent 𝓤 (sem 𝓛 (follows_by R.Denot R.Denot R.coded.code R.coded.code γ m F v)) (sem 𝓛 (follows_so R R γ m P P₀))
    unfolding such_by
    tells m F v p p₀ = ex_i 𝓤 (λ (s : (s : (R.Denot → R.Denot) × R.Denot) × ((w : R.Denot) → P w (s.0 w)) × P₀ s.1). sem
        𝓛 (follows_by R.Denot R.Denot R.coded.code R.coded.code γ m s.0.0 s.0.1)) ((F, v), p, p₀)

    itself : ent 𝓤 (emp 𝓤) (sem 𝓛 (follows R R γ γ (λ w. w)))
    itself =
        let From : R.Denot → R.Denot → Fml = λ z w. fsep (feq R.Denot z w) (fauth γ (R.coded.code w)) in
        let said = qed 𝓛 [] ∵ each ! (λ (w : R.Denot). wand 𝓤 (A.res γ (R.coded.code w)) (A.res γ (R.coded.code w)))
        (λ w. assume ! (‵ (fres γ (R.coded.code w))) $ done !) in
        let back = qed 𝓛 [] ∵ each ! (λ (z : R.Denot). wand 𝓤 (A.auth γ (R.coded.code z))
        (sem 𝓛 (fex R.Denot (From z)))) (λ z. assume ! (‵ (fauth γ (R.coded.code z))) $
        feq_i ! R.Denot z z refl $ fjoin ! $ fpack ! R.Denot (From z) z $ done !) in
        record { apply = λ a p. (said.apply a p, back.apply a p) }

    -- the result has the lender itself, under its name
    pub ends_in : (γ' : GName) → γ' ≡ γ → ((w : R.Denot) → P w w) → (v : R.Denot) → P₀ v
        → ent 𝓤 (emp 𝓤) (sem 𝓛 (follows_so R R γ (maybe.some γ') P P₀))
    unfolding follows_by
    ends_in γ' e p v p₀ = via 𝓤 (sem 𝓛 (follows R R γ γ' (λ w. w)))
        (subst (λ (g : GName). ent 𝓤 (emp 𝓤) (sem 𝓛 (follows R R γ g (λ w. w)))) (sym e) itself)
        (tells (maybe.some γ') (λ w. w) v p p₀)

    -- the lender was given up, and ends as v
    pub ends_as : (v : R.Denot) → ((w : R.Denot) → P w v) → P₀ v
        → ent 𝓤 (A.res γ (R.coded.code v)) (sem 𝓛 (follows_so R R γ maybe.none P P₀))
    unfolding follows_by
    ends_as v p p₀ = tells maybe.none (λ _. v) v p p₀

-- the value of a variant with one field is of its type
pub variant_typed : (τ : Ty) (k : ℕ) (v : Val) → k < 2 ^ 8 → T (has_ty τ v) × WT v → T (has_ty τ v && true)
    × WT (live k (of_list (v ∷ [])))
variant_typed τ k v low typed = (and_tt (has_ty τ v) typed.0, (record { fits = low }, (typed.1, tt)))

module _ {M : Type 1} {𝓤 : Ura M} {𝓛 : Logic 𝓤} {K : Type 0} {Γ : List (Item 𝓤)} {G : Goal 𝓤 𝓛.H} where
  -- the first of several facts at the head of the context is learned
  pub heard_first : K → (φ : Type 0) (P : SProp 𝓤) → (φ → Seq K 𝓛 (raw P ∷ Γ) G)
      → Seq K 𝓛 (raw (sep 𝓤 (fact 𝓤 φ) P) ∷ Γ) G
  heard_first t φ P k = use1 𝓛 (raw (fact 𝓤 φ) ⊛ raw P) (id⊢ 𝓤 (sep 𝓤 (fact 𝓤 φ) P)) $ split t $ heard t φ k

  -- what is owned is one machine value, which its value determines
  pub told : K → (R : RattleType) (val : R.Denot → Val) → Tells R (Is R) (λ y. val y ∷ [])
      → (x : R.Denot) (vs : List Val)
      → (vs ≡ val x ∷ [] → Is R x (val x ∷ []) → Seq K 𝓛 (‵ (R.own_val x (val x ∷ [])) ∷ Γ) G)
      → Seq K 𝓛 (‵ (R.own_val x vs) ∷ Γ) G
  told t R val tells x vs k = peeks t R (Is R) (shows 𝓛 R) x vs
      (λ is. rewrite t 0 (λ (us : List Val). ‵ (R.own_val x us)) (tells x vs is) refl $
      k (tells x vs is) (subst (Is R x) (tells x vs is) is))

  -- a result is taken apart, whose case is known: its value is one machine value
  module _ (R R' : RattleType) {r : Result R.Denot R'.Denot} where
    pub ok_taken : K → (val : R.Denot → Val) → Tells R (Is R) (λ y. val y ∷ []) → (x : R.Denot) → r ≡ Ok x → (v : Val)
        → (v ≡ live 0 (of_list (val x ∷ [])) → Is R x (val x ∷ []) → Seq K 𝓛 (‵ (R.own_val x (val x ∷ [])) ∷ Γ) G)
        → Seq K 𝓛 (‵ ((result.the_row R R').own_val r (v ∷ [])) ∷ Γ) G
    ok_taken t val tells x e v k = rewrite t 0
        (λ (z : Result R.Denot R'.Denot). ‵ ((result.the_row R R').own_val z (v ∷ []))) e refl $
        fpick t (λ us. fsplit t $ feq_l t
        (λ e. fpick t (λ vss. fsplit t $ feq_l t (λ e'. fsplit t $ move t (1 ∷ []) $ drop t $
        told t R val tells x vss.0 (λ is owned. k (ap only e ∙ ap (λ (ws : List Val). live 0 (of_list ws))
        (e' ∙ ap (λ (ws : List Val). ws ++ []) is)) owned)))))

    pub err_taken : K → (val : R'.Denot → Val) → Tells R' (Is R') (λ y. val y ∷ []) → (x : R'.Denot) → r ≡ Err x
        → (v : Val)
        → (v ≡ live 1 (of_list (val x ∷ [])) → Is R' x (val x ∷ []) → Seq K 𝓛 (‵ (R'.own_val x (val x ∷ [])) ∷ Γ) G)
        → Seq K 𝓛 (‵ ((result.the_row R R').own_val r (v ∷ [])) ∷ Γ) G
    err_taken t val tells x e v k = rewrite t 0
        (λ (z : Result R.Denot R'.Denot). ‵ ((result.the_row R R').own_val z (v ∷ []))) e refl $
        fpick t (λ us. fsplit t $ feq_l t
        (λ e. fpick t (λ vss. fsplit t $ feq_l t (λ e'. fsplit t $ move t (1 ∷ []) $ drop t $
        told t R' val tells x vss.0 (λ is owned. k (ap only e ∙ ap (λ (ws : List Val). live 1 (of_list ws))
        (e' ∙ ap (λ (ws : List Val). ws ++ []) is)) owned)))))

-- several facts, to be shown one after another
pub fact_and : {M : Type 1} (𝓤 : Ura M) {φ : Type 0} {F : SProp 𝓤} → φ → ent 𝓤 (emp 𝓤) F
    → ent 𝓤 (emp 𝓤) (sep 𝓤 (fact 𝓤 φ) F)
fact_and 𝓤 {φ} {F} x f = via 𝓤 (sep 𝓤 (emp 𝓤) (emp 𝓤)) (emp∗ 𝓤 (emp 𝓤)) (mono∗ 𝓤 (fact_i 𝓤 φ (emp 𝓤) x) f)

pub fact_last : {M : Type 1} (𝓤 : Ura M) {φ : Type 0} → φ → ent 𝓤 (emp 𝓤) (fact 𝓤 φ)
fact_last 𝓤 {φ} x = fact_i 𝓤 φ (emp 𝓤) x
