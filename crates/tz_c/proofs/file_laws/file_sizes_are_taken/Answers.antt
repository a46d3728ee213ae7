-- The tables of a file are as long as its headers say.
use Rattle.tz_c.proofs.Common.{refl, inl, inr, subst, sym, ◌∙◌, ap, ℕ, List, length, Zone, TzError}
use Rattle.std.proofs.lemmas.List.FromFn.{length-map-range_with_len}
use Rattle.tz_base.specs.declared.error.TzError.TheVariants.{TzFile}
use Rattle.tz_zone.specs.FileSizes.{AreSizesOf}
use Rattle.tz_zone.specs.TzFile.{IsTzFile, IsFramed, part_of, transitions_of, types_of, leaps_of, change_at, type_at, leap_at}
use Rattle.tz_zone.specs.TzFileFault.{FileFails, FrameFails}
use Rattle.tz_zone.specs.declared.parse.tz_file.FileSizes.{FileSizes}
use Rattle.tz_c.specs.Codes.{IsAnswerBy, file_code}
use Rattle.tz_c.specs.Tables.{AreOfSizes, IsOnlyReadAnswer, IsReadBySizes}
use Rattle.tz_c.proofs.file_laws.file_sizes_are_taken.Goals as goal

abbrev HasSizes : FileSizes → Zone → Type 0
HasSizes sizes z = AreOfSizes sizes z.transitions z.types z.leap_seconds

-- the tables of the zone of a file have its sizes
has_sizes : (bytes : List ℕ) (zone : Zone) (sizes : FileSizes) → IsTzFile bytes zone → AreSizesOf bytes sizes
    → HasSizes sizes zone
unfolding transitions_of types_of leaps_of
has_sizes bytes zone sizes file are =
    let p = part_of bytes in record {
      transitions_are = ap (λ (z : Zone). length z.transitions) file.denotes
          ∙ length-map-range_with_len (change_at p.width p.block) 0 p.counts.transition ∙ sym are.transitions_are;
      types_are = ap (λ (z : Zone). length z.types) file.denotes
          ∙ length-map-range_with_len (type_at p.block) 0 p.counts.local_type ∙ sym are.types_are;
      leap_seconds_are = ap (λ (z : Zone). length z.leap_seconds) file.denotes
          ∙ length-map-range_with_len (leap_at p.width p.block) 0 p.counts.leap ∙ sym are.leap_seconds_are;
    }

sizes_written : (bytes : List ℕ) (zone : Zone) (sizes : FileSizes) (code : ℕ) → IsTzFile bytes zone
    → ((e : TzError) → ¬ FileFails bytes e)
    → IsAnswerBy file_code code (IsFramed bytes × AreSizesOf bytes sizes) (FrameFails bytes) → HasSizes sizes zone
sizes_written bytes zone sizes code file sound (inl (ok, (framed, are))) = has_sizes bytes zone sizes file are
sizes_written bytes zone sizes code file sound (inr (fault, is, fails)) =
    absurd (sound (TzFile fault) (inl (fault, refl, fails)))

read_by_sizes : (zone z : Zone) (sizes : FileSizes) (code : ℕ) → HasSizes sizes zone → IsOnlyReadAnswer zone code z
    → IsReadBySizes code (HasSizes sizes z)
read_by_sizes zone z sizes code has (inl (ok, same)) = inl (ok, subst (HasSizes sizes) (sym same) has)
read_by_sizes zone z sizes code has (inr (inl (other, differ))) = inr (inl (
  other,
  λ sized. differ (record {
    transitions_are = has.transitions_are ∙ sym sized.transitions_are;
    types_are = has.types_are ∙ sym sized.types_are;
    leap_seconds_are = has.leap_seconds_are ∙ sym sized.leap_seconds_are;
  }),
))
read_by_sizes zone z sizes code has (inr (inr memory)) = inr (inr memory)

pub returns : goal.returns
returns c zone file =
    let sizes = c.tz_file_sizes.new.out in
    let has = sizes_written c.args.bytes.now zone sizes c.tz_file_sizes.result file
    (λ e. c.files_denote_one_zone.ensures.sound c.args.bytes.now zone e file) c.tz_file_sizes.ensures.answer in
    read_by_sizes zone _ sizes c.tz_file_read.result has (c.tz_file_read.ensures.only zone file)
