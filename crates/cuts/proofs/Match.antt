-- Two lists that match, one to one in some order, each element with one that it is related to; and lists of sides, each alike to its own.
use mathlib.Core.Path.{◌≡◌, sym, subst}
use mathlib.Core.List.{List, [], ◌∷◌, ◌++◌, append-nil, Memᴰ}
use Rattle.laws.specs.All.{All}
use Rattle.laws.proofs.Lists.{all_own, all-weaken}
use Rattle.cuts.specs.Provenance.{Side, SameSide, same, turned, Match, empty, each, swap, chain, Among}

module _ {A : Type 0} (R : A → A → Type 0) (self : (s : A) → R s s) where
  pub whole : (l : List A) → Match R l l
  whole [] = empty
  whole (s ∷ l) = each (self s) (whole l)

  pub equal : {l m : List A} → l ≡ m → Match R l m
  equal {l} e = subst (Match R l) e (whole l)

  pub before : (l : List A) {m n : List A} → Match R m n → Match R (l ++ m) (l ++ n)
  before [] h = h
  before (s ∷ l) h = each (self s) (before l h)

  pub sink : (s : A) (m l : List A) → Match R (s ∷ (m ++ l)) (m ++ (s ∷ l))
  sink s [] l = whole (s ∷ l)
  sink s (t ∷ m) l = chain swap (each (self t) (sink s m l))

  pub commute : (l m : List A) → Match R (l ++ m) (m ++ l)
  commute [] m = equal (sym (append-nil m))
  commute (s ∷ l) m = chain (each (self s) (commute l m)) (sink s m l)

  pub after : {l m : List A} (n : List A) → Match R l m → Match R (l ++ n) (m ++ n)
  after {l} {m} n h = chain (commute l n) (chain (before n h) (commute n m))

pub match_back : {A : Type 0} {R : A → A → Type 0} → ((s t : A) → R s t → R t s) → {l m : List A} → Match R l m → Match R m l
match_back f empty = empty
match_back f (each {s} {t} r h) = each (f s t r) (match_back f h)
match_back f swap = swap
match_back f (chain g h) = chain (match_back f h) (match_back f g)

-- what holds of each element of one list holds of each of the other, if it does not tell related elements apart
pub all_match : {A : Type 0} {R : A → A → Type 0} (Q : A → Type 0) → ((s t : A) → R s t → Q t → Q s) → {l m : List A} → Match R l m → All Q m → All Q l
all_match Q f empty a = tt
all_match Q f (each {s} {t} r h) a = (f s t r a.0, all_match Q f h a.1)
all_match Q f swap a = (a.1.0, (a.0, a.1.1))
all_match Q f (chain g h) a = all_match Q f g (all_match Q f h a)

-- ---- sides
pub alike_self : (s : Side) → SameSide s s
alike_self s = same

pub alike-back : (s t : Side) → SameSide s t → SameSide t s
alike-back s t same = same
alike-back s t turned = turned

pub alike-chain : (s t u : Side) → SameSide s t → SameSide t u → SameSide s u
alike-chain s t u same b = b
alike-chain s t u turned same = turned
alike-chain s t u turned turned = same

pub among-alike : (l : List Side) (s t : Side) → SameSide s t → Among l t → Among l s
among-alike l s t r k = record { like = k.like; alike = alike-chain s t k.like r k.alike; source = k.source }

pub among_match : {l m : List Side} → Match SameSide l m → All (Among m) l
among_match {l} {m} h =
    all_match (Among m) (among-alike m) h
    (all-weaken (λ s. Memᴰ s m) (Among m) (λ s h. record { like = s; alike = same; source = h }) m (all_own m))
