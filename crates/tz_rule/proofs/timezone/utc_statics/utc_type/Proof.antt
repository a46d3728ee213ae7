-- A `&` to the fields of UTC's type holds what one to the type does. Assumes `Logic`.
use Rattle.tz_rule.proofs.Common.{arith, ◌≡◌, refl, [], ◌∷◌, !, None, done, ftrue, hidden_shr, id⊢, kept, move, nothing, qed, ‵, ◌$◌, ◌∵◌, fpack, plain_type, use2}
use Rattle.std.specs.Prelude.{false, pos}
use Rattle.tz_rule.specs.contracts.timezone.local_time_type.LocalTimeType as LocalTimeType
use Rattle.tz_rule.specs.contracts.timezone.utc_statics.TypeFields as TypeFields
use Rattle.tz_rule.proofs.Casts.{cast_Meets}
use Rattle.tz_rule.proofs.timezone.utc_statics.utc_type.Statement.{statement}
use Rattle.tz_rule.proofs.timezone.utc_statics.utc_type.Symbol.{name}
use Rattle.tz_rule.proofs.timezone.utc_statics.utc_type.Code as code

abbrev fields : TypeFields.the_row.Denot
fields = record { ut_offset = pos 0; is_dst = false; time_zone_designation = kept None }

abbrev utc : LocalTimeType.the_row.Denot
utc = plain_type (pos 0)

-- the type that the fields show
abbrev Known : Type 0
Known = (LocalTimeType.the_view (LocalTimeType.the_inverse utc) ≡ utc)
    × LocalTimeType.the_invariant (LocalTimeType.the_inverse utc)

known : Known
known = (
  refl,
  record {
    offset_is = λ e. cc;
    designation_is = record {
      short = omega arith;
      is_padded = refl;
      is_name = λ h. absurd (omega (arith, h));
    };
  },
)

pub utc_type_spec : {M : Type 1} → statement M
utc_type_spec 𝓤 𝓛 𝓜 𝓡 wired =
    cast_Meets TypeFields.the_row LocalTimeType.the_row 𝓛 𝓜 𝓡 fields utc name (code.unfolded 𝓤 𝓛.H 𝓜 𝓡 wired)
    (λ κ b o. qed 𝓛 (‵ (hidden_shr TypeFields.the_row κ fields b o) ∷ []) ∵
    nothing ! $ fpack ! Known (λ _. ftrue) known $ move ! (1 ∷ 0 ∷ []) $ use2 𝓛
    (‵ (hidden_shr LocalTimeType.the_row κ utc b o)) (id⊢ 𝓤 _) $ done !)
