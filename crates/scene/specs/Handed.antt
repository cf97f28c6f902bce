-- What is drawn of points and lists as they are handed over. Definitions only.
use Rattle.std.specs.Prelude.{ℕ, ◌/◌, List, length}
use Rattle.table.specs.declared.Row.{Row}
use Rattle.scene.specs.declared.Quad.{Quad}
use Rattle.scene.specs.declared.points.Points.{Points}
use Rattle.scene.specs.declared.Lists.{Lists}
use Rattle.scene.specs.Scene.{quad_with, quads_text, points_text, lead_text, outline_text, divided_text, refused_text, ring_text}

abbrev pub quad : Lists → List ℕ → Quad
quad a q = quad_with a.nodes.now a.rims.now a.cells.now q

abbrev pub cells : Lists → List ℕ
cells a = quads_text a.nodes.now a.rims.now a.cells.now (length a.cells.now / 4)

abbrev pub points : Points → List ℕ
points p = points_text p.list.now p.count

abbrev pub lead : Points → List ℕ
lead p = lead_text p.list.now p.count

abbrev pub outline : ℕ → ℕ → ℕ → Points → List ℕ
outline n corners cuts p = outline_text n corners cuts p.list.now p.count

abbrev pub divided : ℕ → ℕ → ℕ → Points → Lists → List ℕ
divided n corners cuts p a = divided_text n corners cuts p.list.now p.count a.nodes.now a.rims.now a.cells.now

abbrev pub refused : ℕ → ℕ → ℕ → ℕ → Points → List ℕ
refused n code corners k p = refused_text n code corners k p.list.now p.count

abbrev pub ring : ℕ → Row → Points → Lists → List ℕ
ring n v p a = ring_text n v p.list.now p.count a.nodes.now a.rims.now a.cells.now
