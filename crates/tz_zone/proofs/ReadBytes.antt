-- The bytes so far are followed by those of the next piece.
use Rattle.tz_zone.proofs.Common.{◌≡◌, ℕ, sym, List, Some, Option, None, ◌++◌, Consumes, append_assoc}

pub consumes_more : (old mid new : Option (List ℕ)) (xs ys zs : List ℕ) → Consumes old mid xs → Consumes mid new ys
    → zs ≡ xs ++ ys → Consumes old new zs
consumes_more None mid new xs ys zs so_far next is = tt
consumes_more (Some a) None new xs ys zs so_far next is = absurd so_far
consumes_more (Some a) (Some b) None xs ys zs so_far next is = absurd next
consumes_more (Some a) (Some b) (Some c) xs ys zs so_far next is = rw (is, append_assoc, sym next) so_far
