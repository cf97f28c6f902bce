-- A read into the rest of a list after its first d bytes: together they are its first d + n bytes.
use Rattle.std.proofs.Common.{ℕ, ◌+◌, ◌-◌, ◌≤◌, List, ◌++◌, length, take, drop, sym, ap, ◌∙◌, subst, le_refl, drop_at, length-take-le}
use Rattle.std.specs.declared.option.Option.{Option}
use Rattle.std.specs.Io.KnownBytes.{Consumes}
use Rattle.std.proofs.KnownBytes.{Consumes-trans}
use Rattle.std.proofs.lemmas.Slice.{take-put_mid_below}
use borrow.Rule.Slice.PartMut.{put_mid, post_of}
use lib.Seq.{take-add, take-append-le}

pub read_on : (old mid new : Option (List ℕ)) (d n : ℕ) (xs ys : List ℕ) → d ≤ length xs → n ≤ length ys → Consumes old mid (take d xs)
    → Consumes mid new (take n ys) → Consumes old new (take (d + n) (put_mid d (length xs - d) xs ys))
read_on old mid new d n xs ys within fits before read =
    let all = put_mid d (length xs - d) xs ys in
    let after = post_of d (length xs - d) xs in
    let front = take-put_mid_below d (length xs - d) xs ys d (le_refl d) within in
    let part = ap (take n) (drop_at (take d xs) (ys ++ after) d (length-take-le d xs within)) ∙ take-append-le n ys after fits in
    let joined = take-add d n all ∙ ap (λ l. l ++ take n (drop d all)) front ∙ ap (λ l. take d xs ++ l) part in
    subst (Consumes old new) (sym joined) (Consumes-trans old mid new (take d xs) (take n ys) before read)
