-- It answers what the inner allocator answers, and `Err` where the counts refuse. Assumes `Logic`.
use Rattle.std.proofs.Common.{◌≡◌, ℕ, ◌+◌, ◌^◌, ◌<◌, Bool, true, false, List, [], ◌∷◌, Ok, Err, refl, ap, w64, Bor}
use Rattle.std.proofs.alloc.Calls.{Al, α, seen, token, Answer, answer_val, Answer-typed, Answer-Ok, Answer-err, takes_key, Takes, at_takes, Answered, Takes-goes, Takes-gives, answers}
use Rattle.std.proofs.VecSteps.Shapes.{after}
use Rattle.std.proofs.raw_atomic.Walks.{proved, leaves}
use Rattle.std.specs.Allocator.{block_if_ok}
use seplogic.Ra.Ura.{Ura}
use mir.Syntax.{Ty, Args, Fn, a_type, dnil, dcons}
use mir.Val.{Val, vint, vptr}
use mir.MapTy.{inst_fn}
use base.Logic.{SProp, ent, id⊢}
use base.Fml.{Lft, Share, ftrue, fsep, flft}
use prog.Memory.{Memory, size, align, capped, up}
use prog.Routine.{Routine}
use prog.Wp.{Calls, Loops, WpFn}
use sound.WpLaws.{FmC}
use contract.BorrowLft.{◌⊑◌, ⊑_trans}
use contract.Monad.{Fun, fact}
use contract.Running.{tables}
use types.Logic.{Logic}
use types.Kit.{‵, raw, ◌⊛◌, some, later, prop, at_ret, Sq, ◌$◌, ◌∵◌, !, qed, by, move, keep, use0, use1, use2, split, join, fsplit, fjoin, feq_i, feq_l, pick, await}
use types.Part.{agg}
use types.Run.{enter, lit, addr, stop, fld, no_more, and_then, first, branches, skips, exec, returns, returns_within}
use types.ByLocal.{alloc_all, pass_all, free_all, look_at, get, through, sets, lands_as, env}
use denote.Builtin.{usize, bool, RefOf}
use denote.Exit.{yes}
use denote.Opens.{unhide}
use denote.Param.{bounded, param}
use denote.Plain.{uint_vals, uint_Tells}
use denote.RattleType.{owns}
use denote.RawPtr.{block_ptr}
use denote.Ref.{shr_vals}
use denote.Signature.{Slot, plain, types_at}
use denote.Steps.{nothing, heard, only}
use denote.Triple.Call.{calls_at}
use denote.Triple.Clauses.{Ended, Clauses}
use denote.Triple.Spec.{triple_of}
use denote.Triple.Statement.{Contract, Triple}
use denote.Triple.Table.{framed}
use denote.Triple.Walked.{Stays, walk_of, stay_dropped, Goes-dropped}
use Rattle.tz_samples.specs.contracts.refusing.Refusing as wrapper
use Rattle.tz_samples.specs.contracts.refusing.Counts.refuse as r
use Rattle.tz_samples.proofs.refusing.Counts.refuse.Met.{met as refuse}
use Rattle.tz_samples.specs.contracts.refusing.RefusingAllocator.allocate as f
use Rattle.tz_samples.proofs.refusing.RefusingAllocator.allocate.Statement.{statement}
use Rattle.tz_samples.proofs.refusing.RefusingAllocator.allocate.Code as code

abbrev word : Slot 2
word = plain (λ _. usize)

module _ (Z : Al) where
  abbrev args : Args
  args = bounded (a_type ∷ []) (Z.row, tt) (dcons Z.d (dcons Z.drops dnil))

  abbrev here : Fn
  here = inst_fn args code.function

  abbrev self : Slot 2
  self = RefOf (0 ∷ []) tt (plain (λ _. wrapper.the_row (param 0 Z.row))) (λ _. tt)

  abbrev ended : Ended
  ended = f.ended Z.row Z.g Z.d Z.drops

  abbrev stayed : Stays ended.signature.params ended.kept
  stayed = (stay_dropped self yes, (stay_dropped word yes, (stay_dropped word yes, tt)))

module _ (Z : Al) {M : Type 1} {𝓤 : Ura M} (𝓛 : Logic 𝓤) (at_mem : Memory → SProp 𝓤) (run : Routine → Fun 𝓤) where
  abbrev held : Clauses 𝓤 (ended Z)
  held = f.clauses Z.row Z.g Z.d Z.drops 𝓛 at_mem run

  abbrev Refuse : Contract 𝓤
  Refuse = triple_of 𝓛 r.signature (r.spec 𝓛 at_mem run)

  module _ (C : Calls 𝓤 𝓛.H) (Λ : Loops 𝓤 𝓛.H) (fm : FmC 𝓤 𝓛.H 𝓛.laws C)
      (takes : Triple 𝓤 (C (takes_key Z)) (Takes Z 𝓛 at_mem run)) (refuses : Triple 𝓤 (C r.Key.name) Refuse)
      (κ₁ κ₂ : Lft) (q₁ q₂ : Share) (inn : κ₁ ⊑ κ₂) (x : Bor (wrapper.the_row Z.row).Denot) (n a : ℕ) (τ : Ty) where
    abbrev bound : (walk_of 𝓛 (ended Z) (stayed Z) held).Ghost
    bound = (
      (
        (κ₁, (κ₂, tt)),
        (q₁, (q₂, tt)),
        (inn, tt),
        (x, (n, (a, tt))),
        (
          shr_vals x,
          (
            vint w64 n
                ∷ [],
            (vint w64 a ∷ [], tt),
          ),
        ),
      ),
      τ,
    )

    abbrev vs : List Val
    vs = vptr x.ref_ptr.0 x.ref_ptr.1 ∷ vint w64 n ∷ vint w64 a ∷ []

    abbrev Post : Val → SProp 𝓤
    Post = (walk_of 𝓛 (ended Z) (stayed Z) held).post bound

    out : (v : Val) (z : Answer.Denot) → Sq 𝓛 (‵ (Answer.own_val z (v ∷ [])) ∷ ‵ (block_if_ok (token Z x.now.inner) τ z)
        ∷ ‵ (flft κ₁ q₁) ∷ ‵ (fsep (flft κ₂ q₂) ftrue) ∷ []) (prop (Post v))
    out v z =
        nothing ! $ nothing ! $ fjoin ! $ nothing ! $ fjoin ! $ nothing ! $ fjoin ! $ move ! (3 ∷ 4 ∷ []) $ join ! $ by
        ! (leaves 𝓛 (ended Z) (stayed Z) held bound v z (tt, (tt, (tt, tt))) (tt, (tt, (tt, tt))))

    out_refused : Sq 𝓛 (‵ (flft κ₁ q₁) ∷ ‵ (fsep (flft κ₂ q₂) ftrue) ∷ []) (prop (Post (answer_val false 0 0)))
    out_refused = nothing ! $ use0 𝓛 (‵ (Answer.own_val (Err (record {})) (answer_val false 0 0 ∷ [])))
        (Answer-err 𝓛) $ out (answer_val false 0 0) (Err (record {}))

    walk : n < 2 ^ 64 → a < 2 ^ 64 → ent 𝓤 ((walk_of 𝓛 (ended Z) (stayed Z) held).pre bound)
        (WpFn 𝓤 𝓛.H C Λ (here Z) vs Post)
    walk fn fa =
        let h = x.now.inner in let p : ℕ × ℕ = (x.ref_ptr.0, x.ref_ptr.1 + up (align (α Z)) 0) in
        let at : ℕ × ℕ = (x.ref_ptr.0, x.ref_ptr.1 + up 8 (up (align (α Z)) 0 + size (α Z))) in
        let Said : Type 0 = (capped (size τ) ≡ n) × (capped (align τ) ≡ a) in
        qed 𝓛 (((‵ (flft κ₁ q₁) ⊛ ‵ (fsep (flft κ₂ q₂) ftrue)) ⊛ ‵
        (owns (types_at (ended Z).signature.params bound.0.0) bound.0.3 bound.0.4))
        ∷ (raw (fact 𝓤 (κ₂ ⊑ Z.row.lives)) ⊛ raw (fact 𝓤 Said)) ∷ []) ∵
        move ! (1 ∷ []) $ split ! $ heard ! (κ₂ ⊑ Z.row.lives)
        (λ le. heard ! Said (λ said. split ! $ split ! $ move ! (2 ∷ []) $ fsplit ! $ fsplit ! $ move !
        (1 ∷ []) $ unhide ! $ fsplit ! $ fsplit ! $
        use1 𝓛 (‵ (seen Z κ₁ p h)) (id⊢ 𝓤 _) $ move ! (1 ∷ []) $ fsplit ! $ keep ! (0 ∷ 6 ∷ 2 ∷ 7 ∷ []) $
        -- [a `&` to the counts; the token of κ₁; a `&` to the inner allocator; the other token]
        enter ! C Λ (here Z) vs Post $ alloc_all !
        (λ l. pass_all ! refl ((tt, tt), ((tt, record { fits = fn }), ((tt, record { fits = fa }), tt))) $
        sets ! (addr ! (through ! refl (fld ! refl (stop !)))) refl (tt, tt) $
        let z : Refuse.Ghost = (
          (
            (κ₁, tt),
            (q₁, tt),
            tt,
            (record { ref_ptr = at; now = x.now.counts }, tt),
            (
              vptr at.0 at.1
                  ∷ [],
              tt,
            ),
          ),
          tt,
        ) in
        feq_i ! (List Val) (vptr at.0 at.1 ∷ []) (vptr at.0 at.1 ∷ []) refl $ fjoin ! $ nothing ! $ move !
        (1 ∷ []) $ fjoin ! $ nothing ! $ move ! (2 ∷ []) $ join ! $ join ! $ nothing ! $ move ! (1 ∷ []) $
        use2 𝓛 (raw (Refuse.pre z)) (id⊢ 𝓤 _) $ calls_at ! fm Refuse refuses z (and_then ! (get ! refl) (no_more !))
        (λ u.
        use1 𝓛 (later (some (λ (y : Bool). ((‵ (flft κ₁ q₁) ⊛ ‵ ftrue) ⊛ ‵ (bool.own_val y (u ∷ []))) ⊛ some
        (λ (ws : Unit {0} × Unit {0}). ‵ (fsep ftrue ftrue) ⊛ ‵ ftrue)))) (id⊢ 𝓤 _) $
        await ! tt $ pick ! (λ y. split ! $ split ! $ move ! (1 ∷ []) $ feq_l !
        (λ e. split ! $ lands_as ! (ap only e) refl (tt, tt) $
        -- [the token of κ₁; two that are not needed; a `&` to the inner allocator; the other token]
        first ! $ branches ! (get ! refl)
        (λ _. sets ! (agg ! (no_more !)) refl (tt, tt) $ sets !
        (agg ! (and_then ! (lit ! tt) (and_then ! (get ! refl) (no_more !)))) refl (Answer-typed false 0 0) $
        returns_within ! Post refl (look_at ! 0 refl) $ free_all ! refl $ keep ! (0 ∷ 4 ∷ []) $ out_refused)
        (λ _. skips ! $ exec ! C Λ (env (here Z).locals l) (after 3 (here Z).body) (at_ret _ Post) $ sets !
        (addr ! (through ! refl (fld ! refl (stop !)))) refl (tt, tt) $ move ! (3 ∷ 0 ∷ []) $
        let w : (Takes Z 𝓛 at_mem run).Ghost = at_takes Z 𝓛 at_mem run κ₁ q₁ p h n a τ in
        use2 𝓛 (raw ((Takes Z 𝓛 at_mem run).pre w))
        (Takes-goes Z 𝓛 at_mem run κ₁ q₁ p h (⊑_trans κ₁ κ₂ Z.row.lives inn le) n a τ said.0 said.1 fn fa) $
        calls_at ! fm (Takes Z 𝓛 at_mem run) takes w
        (and_then ! (get ! refl) (and_then ! (get ! refl) (and_then ! (get ! refl) (no_more !)))) (λ v.
        use1 𝓛 (later (raw (Answered Z 𝓛 at_mem run h τ v) ⊛ ‵ (flft κ₁ q₁)))
        (Takes-gives Z 𝓛 at_mem run κ₁ q₁ p h n a τ v) $ await ! tt $ split ! $ answers Z ! at_mem run h τ v
        (λ b o e'. fjoin ! $ lands_as ! e' refl (Answer-typed true b o) $ returns ! (look_at ! 0 refl) $ free_all ! refl
        $ keep ! (0 ∷ 1 ∷ 4 ∷ []) $
        use0 𝓛 (‵ (Answer.own_val (Ok (block_ptr b o)) (answer_val true b o ∷ []))) (Answer-Ok 𝓛 b o) $ out
        (answer_val true b o) (Ok (block_ptr b o)))
        (λ e'. lands_as ! e' refl (Answer-typed false 0 0) $ returns ! (look_at ! 0 refl) $ free_all ! refl $ keep !
        (0 ∷ 3 ∷ []) $ out_refused)))))))))

pub allocate_spec : {M : Type 1} → statement M
allocate_spec 𝓤 𝓛 𝓜 𝓡 wired B L g d dd met _ =
    let Z : Al = record { row = B; laws = L; g = g; d = d; drops = dd } in let 𝓣 = tables 𝓤 𝓛.H 𝓜 𝓡 𝓡.env in
    proved 𝓛 (ended Z) (stayed Z) (held Z 𝓛 𝓜.mem 𝓡.returns) 𝓜 𝓡 (
      Goes-dropped 𝓛 2 (self Z) yes (λ κs x w. refl),
      (
        Goes-dropped 𝓛 2 word yes
            (λ κs x w. refl),
        (Goes-dropped 𝓛 2 word yes (λ κs x w. refl), tt),
      ),
    )
    (f.Key.name (args Z)) (here Z) (code.unfolded 𝓤 𝓛.H 𝓜 𝓡 wired (B, tt) d dd)
    (λ κs. (shr_vals, (uint_vals w64, (uint_vals w64, tt))))
    (λ κs. ((λ r vs s. s.0), (uint_Tells w64, (uint_Tells w64, tt)))) (λ κs qs bounds a τ are.
    walk Z 𝓛 𝓜.mem 𝓡.returns 𝓣.C 𝓣.Λ (framed 𝓤 𝓛.H 𝓜 𝓣) (met.allocate dd)
    (refuse 𝓤 𝓛 𝓜 𝓡 (code.calls-tz_samples::refusing::Counts::refuse 𝓡.env wired)) κs.0 κs.1.0 qs.0 qs.1.0 bounds.0
    a.0 a.1.0 a.1.1.0 τ are.1.0.1 are.1.1.0.1)
