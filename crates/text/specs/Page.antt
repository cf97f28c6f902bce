-- A page: whether a text has room on it, and what writing the text leaves of it. Definitions only.
use Rattle.std.specs.Prelude.{ℕ, ◌+◌, ◌≡◌, ◌≤◌, List, length}
use Rattle.text.specs.declared.Page.{Page}
use Rattle.text.specs.Text.{Written}

pub record Room (p : Page) (t : List ℕ) : Type 0 where
  pub fits : p.at + length t ≤ length p.out.now

-- the page q is p with the text t written: the same list, in which the text stands from where p had come to
pub record Wrote (p : Page) (t : List ℕ) (q : Page) : Type 0 where
  pub list : q.out.ghost_name ≡ p.out.ghost_name
  pub text : Written p.out.now p.at t q.at q.out.now
