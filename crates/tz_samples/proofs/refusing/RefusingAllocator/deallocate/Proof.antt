-- It counts the block, and gives it back to the inner allocator. Assumes `Logic`.
use Rattle.std.proofs.Common.{◌≡◌, ℕ, ◌+◌, ◌^◌, ◌<◌, List, [], ◌∷◌, refl, ap, w64, Bor}
use Rattle.std.proofs.alloc.Calls.{Al, α, seen, token, gives_key, Gives, at_gives, Gives-goes, Gives-Gives}
use Rattle.std.proofs.raw_atomic.Walks.{proved, leaves}
use seplogic.Ra.Ura.{Ura}
use mir.Syntax.{Ty, Args, Fn, a_type, dnil, dcons}
use mir.Val.{Val, vunit, vint, vptr}
use mir.MapTy.{inst_fn}
use base.Logic.{SProp, ent, id⊢, never, fst∗}
use base.Fml.{Lft, Share, Fml, ftrue, fsep, flft}
use prog.Memory.{Memory, size, align, capped, up}
use prog.Routine.{Routine}
use prog.Wp.{Calls, Loops, WpFn}
use sound.WpLaws.{FmC}
use contract.BorrowLft.{◌⊑◌, ⊑_trans}
use contract.Monad.{Fun, fact}
use contract.Running.{tables}
use types.Logic.{Logic, sem}
use types.Kit.{‵, raw, ◌⊛◌, some, given, later, prop, ◌$◌, ◌∵◌, !, qed, by, move, keep, use1, use2, split, split3, join, group, fsplit, fjoin, feq_i, feq_l, pick, learn, regoal, await}
use types.Run.{enter, of_opd, unit_lit, addr, stop, fld, no_more, and_then, returns}
use types.ByLocal.{alloc_all, pass_all, free_all, look_at, get, through, sets, lands_as}
use denote.Builtin.{usize, unit, RawPtr, RefOf}
use denote.Exit.{yes}
use denote.Opens.{unhide}
use denote.Param.{bounded, param}
use denote.Plain.{uint_vals, uint_Tells}
use denote.RattleType.{owns}
use denote.RawPtr.{Ptr, block_ptr, null_ptr, ptr_val, room_for, in_a_block, rawptr_vals, rawptr_Tells}
use denote.Ref.{shr_vals}
use denote.Signature.{Slot, plain, types_at}
use denote.Steps.{nothing, heard, only}
use denote.Triple.Call.{calls_at}
use denote.Triple.Clauses.{Ended, Clauses}
use denote.Triple.Spec.{triple_of}
use denote.Triple.Statement.{Contract, Triple}
use denote.Triple.Table.{framed}
use denote.Triple.Walked.{Stays, walk_of, stay_dropped, Goes-dropped}
use Rattle.tz_samples.specs.contracts.refusing.Refusing as wrapper
use Rattle.tz_samples.specs.contracts.refusing.Counts.take_back as t
use Rattle.tz_samples.proofs.refusing.Counts.take_back.Met.{met as take_back}
use Rattle.tz_samples.specs.contracts.refusing.RefusingAllocator.deallocate as f
use Rattle.tz_samples.proofs.refusing.RefusingAllocator.deallocate.Statement.{statement}
use Rattle.tz_samples.proofs.refusing.RefusingAllocator.deallocate.Code as code

abbrev word : Slot 2
word = plain (λ _. usize)

abbrev pointer : Slot 2
pointer = plain (λ _. RawPtr)

module _ (Z : Al) where
  abbrev args : Args
  args = bounded (a_type ∷ []) (Z.row, tt) (dcons Z.d (dcons Z.drops dnil))

  abbrev here : Fn
  here = inst_fn args code.function

  abbrev self : Slot 2
  self = RefOf (0 ∷ []) tt (plain (λ _. wrapper.the_row (param 0 Z.row))) (λ _. tt)

  abbrev ended : Ended
  ended = f.ended Z.row Z.g Z.d Z.drops

  abbrev stayed : Stays ended.signature.params ended.kept
  stayed = (stay_dropped self yes, (stay_dropped pointer yes, (stay_dropped word yes, (stay_dropped word yes, tt))))

module _ (Z : Al) {M : Type 1} {𝓤 : Ura M} (𝓛 : Logic 𝓤) (at_mem : Memory → SProp 𝓤) (run : Routine → Fun 𝓤) where
  abbrev held : Clauses 𝓤 (ended Z)
  held = f.clauses Z.row Z.g Z.d Z.drops 𝓛 at_mem run

  abbrev TakeBack : Contract 𝓤
  TakeBack = triple_of 𝓛 t.signature (t.spec 𝓛 at_mem run)

  module _ (C : Calls 𝓤 𝓛.H) (Λ : Loops 𝓤 𝓛.H) (fm : FmC 𝓤 𝓛.H 𝓛.laws C)
      (gives : Triple 𝓤 (C (gives_key Z)) (Gives Z 𝓛 at_mem run)) (takes_back : Triple 𝓤 (C t.Key.name) TakeBack)
      (κ₁ κ₂ : Lft) (q₁ q₂ : Share) (inn : κ₁ ⊑ κ₂) (x : Bor (wrapper.the_row Z.row).Denot) (n a : ℕ) (τ : Ty) where
    abbrev bound : Ptr → (walk_of 𝓛 (ended Z) (stayed Z) held).Ghost
    bound i = (
      (
        (κ₁, (κ₂, tt)),
        (q₁, (q₂, tt)),
        (inn, tt),
        (x, (i, (n, (a, tt)))),
        (
          shr_vals
              x,
          (rawptr_vals i, (vint w64 n ∷ [], (vint w64 a ∷ [], tt))),
        ),
      ),
      τ,
    )

    abbrev vs : Ptr → List Val
    vs i = vptr x.ref_ptr.0 x.ref_ptr.1 ∷ ptr_val i ∷ vint w64 n ∷ vint w64 a ∷ []

    abbrev Post : Ptr → Val → SProp 𝓤
    Post i = (walk_of 𝓛 (ended Z) (stayed Z) held).post (bound i)

    abbrev Block : Ptr → Fml
    Block i = fsep (room_for τ i) (token Z x.now.inner τ i)

    walk : n < 2 ^ 64 → a < 2 ^ 64 → (i : Ptr)
        → ent 𝓤 ((walk_of 𝓛 (ended Z) (stayed Z) held).pre (bound i)) (WpFn 𝓤 𝓛.H C Λ (here Z) (vs i) (Post i))
    walk fn fa i =
        let h = x.now.inner in let p : ℕ × ℕ = (x.ref_ptr.0, x.ref_ptr.1 + up (align (α Z)) 0) in
        let at : ℕ × ℕ = (x.ref_ptr.0, x.ref_ptr.1 + up 8 (up (align (α Z)) 0 + size (α Z))) in
        let Said : Type 0 = (capped (size τ) ≡ n) × (capped (align τ) ≡ a) in
        qed 𝓛 (((‵ (flft κ₁ q₁) ⊛ ‵ (fsep (flft κ₂ q₂) ftrue)) ⊛ ‵
        (owns (types_at (ended Z).signature.params (bound i).0.0) (bound i).0.3 (bound i).0.4))
        ∷ (raw (fact 𝓤 (κ₂ ⊑ Z.row.lives)) ⊛ raw (fact 𝓤 Said) ⊛ ‵ (Block i)) ∷ []) ∵
        move ! (1 ∷ []) $ split3 ! $ heard ! (κ₂ ⊑ Z.row.lives)
        (λ le. heard ! Said (λ said. in_a_block ! i Block (fst∗ 𝓤 (never 𝓤) (sem 𝓛 (token Z h τ null_ptr)))
        (λ b o e.
        regoal ! (λ (j : Ptr). prop (WpFn 𝓤 𝓛.H C Λ (here Z) (vs j) (Post j))) e refl $ move ! (1 ∷ []) $
        split ! $ split ! $ move ! (2 ∷ []) $ fsplit ! $ fsplit ! $ move ! (1 ∷ []) $ unhide ! $ fsplit ! $ fsplit ! $
        use1 𝓛 (‵ (seen Z κ₁ p h)) (id⊢ 𝓤 _) $ move ! (1 ∷ []) $ fsplit ! $ keep ! (0 ∷ 6 ∷ 2 ∷ 7 ∷ 8 ∷ []) $
        -- [a `&` to the counts; the token of κ₁; a `&` to the inner allocator; the other token; the block and the right
        -- to free it]
        enter ! C Λ (here Z) (vs (block_ptr b o)) (Post (block_ptr b o)) $
        alloc_all ! (λ l. pass_all ! refl (
          (tt, tt),
          ((tt, tt), ((tt, record { fits = fn }), ((tt, record { fits = fa }), tt))),
        ) $
        sets ! (addr ! (through ! refl (fld ! refl (stop !)))) refl (tt, tt) $
        let z : TakeBack.Ghost = (
          (
            (κ₁, tt),
            (q₁, tt),
            tt,
            (record { ref_ptr = at; now = x.now.counts }, tt),
            (
              vptr at.0 at.1
                  ∷ [],
              tt,
            ),
          ),
          tt,
        ) in
        feq_i ! (List Val) (vptr at.0 at.1 ∷ []) (vptr at.0 at.1 ∷ []) refl $ fjoin ! $ nothing ! $ move !
        (1 ∷ []) $ fjoin ! $ nothing ! $ move ! (2 ∷ []) $ join ! $ join ! $ nothing ! $ move ! (1 ∷ []) $
        use2 𝓛 (raw (TakeBack.pre z)) (id⊢ 𝓤 _) $ calls_at ! fm TakeBack takes_back z
        (and_then ! (get ! refl) (no_more !)) (λ u.
        use1 𝓛 (later (some (λ (y : Unit {0}). ((‵ (flft κ₁ q₁) ⊛ ‵ ftrue) ⊛ ‵ (unit.own_val y (u ∷ []))) ⊛ some
        (λ (ws : Unit {0} × Unit {0}). ‵ (fsep ftrue ftrue) ⊛ ‵ ftrue)))) (id⊢ 𝓤 _) $
        await ! tt $ pick ! (λ y. split ! $ split ! $ move ! (1 ∷ []) $ feq_l !
        (λ is_unit. split ! $ lands_as ! (ap only is_unit) refl (tt, tt) $
        sets ! (addr ! (through ! refl (fld ! refl (stop !)))) refl (tt, tt) $
        -- [the token of κ₁; two that are not needed; a `&` to the inner allocator; the other token; the block]
        let w : (Gives Z 𝓛 at_mem run).Ghost = at_gives Z 𝓛 at_mem run κ₁ q₁ p h b o n a τ in
        move ! (5 ∷ 3 ∷ 0 ∷ []) $ fsplit ! $ group ! 4 $
        use1 𝓛 (raw ((Gives Z 𝓛 at_mem run).pre w))
        (Gives-goes Z 𝓛 at_mem run κ₁ q₁ p h (⊑_trans κ₁ κ₂ Z.row.lives inn le) b o n a τ said.0 said.1 fn fa) $
        calls_at ! fm (Gives Z 𝓛 at_mem run) gives w
        (and_then ! (get ! refl) (and_then ! (get ! refl)
        (and_then ! (get ! refl) (and_then ! (get ! refl) (no_more !))))) (λ v.
        use1 𝓛 (later (given (v ≡ vunit) (‵ (flft κ₁ q₁)))) (Gives-Gives Z 𝓛 at_mem run κ₁ q₁ p h b o n a τ v) $ await !
        tt $ learn ! (λ e'.
        lands_as ! e' refl (tt, tt) $ sets ! (of_opd ! (unit_lit !)) refl (tt, tt) $ returns !
        (look_at ! 0 refl) $ free_all ! refl $ keep ! (0 ∷ 3 ∷ []) $ join ! $
        nothing ! $ feq_i ! (List Val) (vunit ∷ []) (vunit ∷ []) refl $ nothing ! $ nothing ! $ fjoin ! $ nothing ! $
        fjoin ! $ nothing ! $ fjoin ! $ nothing ! $ fjoin ! $ move ! (3 ∷ []) $
        by ! (leaves 𝓛 (ended Z) (stayed Z) held (bound (block_ptr b o)) vunit tt (tt, (tt, (tt, (tt, tt))))
        (tt, (tt, (tt, (tt, tt))))))))))))))

pub deallocate_spec : {M : Type 1} → statement M
deallocate_spec 𝓤 𝓛 𝓜 𝓡 wired B L g d dd met _ =
    let Z : Al = record { row = B; laws = L; g = g; d = d; drops = dd } in let 𝓣 = tables 𝓤 𝓛.H 𝓜 𝓡 𝓡.env in
    proved 𝓛 (ended Z) (stayed Z) (held Z 𝓛 𝓜.mem 𝓡.returns) 𝓜 𝓡 (
      Goes-dropped 𝓛 2 (self Z) yes (λ κs x w. refl),
      (
        Goes-dropped 𝓛 2 pointer yes
            (λ κs x w. refl),
        (
          Goes-dropped 𝓛 2 word yes (λ κs x w. refl),
          (Goes-dropped 𝓛 2 word yes (λ κs x w. refl), tt),
        ),
      ),
    )
    (f.Key.name (args Z)) (here Z) (code.unfolded 𝓤 𝓛.H 𝓜 𝓡 wired (B, tt) d dd)
    (λ κs. (shr_vals, (rawptr_vals, (uint_vals w64, (uint_vals w64, tt)))))
    (λ κs. ((λ r vs s. s.0), (rawptr_Tells, (uint_Tells w64, (uint_Tells w64, tt))))) (λ κs qs bounds a τ are.
    walk Z 𝓛 𝓜.mem 𝓡.returns 𝓣.C 𝓣.Λ (framed 𝓤 𝓛.H 𝓜 𝓣) (met.deallocate dd)
    (take_back 𝓤 𝓛 𝓜 𝓡 (code.calls-tz_samples::refusing::Counts::take_back 𝓡.env wired)) κs.0 κs.1.0 qs.0 qs.1.0
    bounds.0 a.0 a.1.1.0 a.1.1.1.0 τ are.1.1.0.1 are.1.1.1.0.1 a.1.0)
