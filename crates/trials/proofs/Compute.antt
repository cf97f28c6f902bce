-- One name for the `unfolding` line of a trial: it opens every definition of 01, from the doubles' operations up to the program's run.
use lib.Ieee as Ieee
use Rattle.laws.specs.Double as Double
use Rattle.laws.specs.Bounded as Bounded
use Rattle.laws.specs.Units as Units
use Rattle.vector.specs.Grid as Grid
use Rattle.vector.specs.Plane as Plane
use Rattle.root.specs.Root as Root
use Rattle.root.specs.Norm as Norm
use Rattle.cosine.specs.Cosine as Cosine
use Rattle.arclength.specs.Arclength as Arclength
use Rattle.chain.specs.Chain as Chain
use Rattle.nearness.specs.Nearness as Nearness
use Rattle.clean.specs.Clean as Clean
use Rattle.segments.specs.Segments as Segments
use Rattle.segments.specs.Meeting as Meeting
use Rattle.simple.specs.Simple as Simple
use Rattle.marks.specs.Marks as Marks
use Rattle.corner.specs.Corner as Corner
use Rattle.judge.specs.Judge as Judge
use Rattle.obstacles.specs.Obstacles as Obstacles
use Rattle.diagonal.specs.Diagonal as Diagonal
use Rattle.parts.specs.Cut as Cut
use Rattle.split.specs.Split as Split
use Rattle.keys.specs.Keys as Keys
use Rattle.nodes.specs.Nodes as Nodes
use Rattle.quads.specs.Quads as Quads
use Rattle.cells.specs.Cells as Cells
use Rattle.cells.specs.Pieces as Pieces
use Rattle.cells.specs.Asks as Asks
use Rattle.cells.specs.Rims as Rims
use Rattle.limits.specs.Sets as Sets
use Rattle.call.specs.Call as Call
use Rattle.call.specs.Divide as Divide
use Rattle.call.specs.Lent as Lent
use Rattle.laws.specs.Table as Table
use Rattle.quads.specs.Flat as QuadsFlat
use Rattle.nodes.specs.Flat as NodesFlat
use Rattle.blocks.specs.Fields as Fields
use Rattle.blocks.specs.Blocks as Blocks
use Rattle.text.specs.Text as Text
use Rattle.report.specs.Report as Report
use Rattle.told.specs.Text as Told
use Rattle.job.specs.Step as Step
use Rattle.job.specs.Run as Run

unfoldable pub in_doubles : Unit {0}
unfolding Ieee.add Ieee.sub Ieee.mul Ieee.div Ieee.lt Ieee.le Ieee.of_int Ieee.round Ieee.size Ieee.units Ieee.to_bits Ieee.of_bits
    Double.lit Double.clamp Bounded.any Bounded.parity Bounded.first
in_doubles = tt

unfoldable pub in_vector : Unit {0}
unfolding Grid.sub Grid.dot Grid.cross Grid.same Grid.at Grid.prev Grid.term Grid.area_to Grid.polygon_area Units.mm Units.mm² Plane.in_mm Plane.sub
    Plane.dot Plane.cross Plane.lerp
in_vector = tt

unfoldable pub in_root : Unit {0}
unfolding Root.whole_root Root.nearest_root Root.dropped Root.round_root Root.root_of Root.root_bits Norm.norm Norm.dist Norm.grid_norm Norm.grid_dist
in_root = tt

unfoldable pub in_chain : Unit {0}
unfolding Cosine.cosine Arclength.arc Arclength.point_at_arclength Chain.stays Chain.last_kept Chain.stretch Chain.stretches_to Chain.simplify_chain
in_chain = tt

unfoldable pub in_clean : Unit {0}
unfolding Nearness.tolerance Nearness.near Nearness.point_segment_distance Nearness.is_flat Clean.spaced Clean.opened Clean.flat Clean.bent
    Clean.straightened Clean.pass Clean.passes Clean.clean_polygon
in_clean = tt

unfoldable pub in_simple : Unit {0}
unfolding Segments.interior Segments.ratio Segments.segments_cross Simple.edges_cross Simple.polygon_simple Simple.ray_meets Simple.meets_edge
    Simple.point_in_polygon Meeting.on_line_of Meeting.strictly_between
in_simple = tt

unfoldable pub in_marks : Unit {0}
unfolding Marks.joins Marks.mark Marks.marks_to Marks.marked
in_marks = tt

unfoldable pub in_corner : Unit {0}
unfolding Corner.quotient Corner.by_quadrant Corner.measure Corner.bad Corner.measure_at Corner.worst_to Corner.worst
in_corner = tt

unfoldable pub in_diagonal : Unit {0}
unfolding Obstacles.clear_of Obstacles.crosses_edge Obstacles.runs_over Obstacles.unobstructed Judge.in_range Diagonal.cosine_next Diagonal.cosine_prev
    Diagonal.meets_rule Judge.larger Diagonal.score Diagonal.better Diagonal.best_to
in_diagonal = tt

unfoldable pub in_split : Unit {0}
unfolding Cut.oriented Cut.make_sub_polygon Cut.turned_area Cut.first_part Cut.second_part Cut.turned_in Split.split_polygon_at Split.cut_at Split.pop
    Split.pops Split.split_bad_vertices
in_split = tt

unfoldable pub in_cells : Unit {0}
unfolding Keys.rounded Keys.key Nodes.has_key Nodes.number Nodes.add_node Nodes.add_nodes Quads.middle Quads.too_far Quads.edge_middle Quads.total
    Quads.mean Quads.turns_left Quads.quad_positive Quads.all_distinct Quads.holds Quads.cells_to Cells.attempt Cells.subdivide Pieces.onward
    Pieces.pieces_to Asks.all_marked Asks.asks_for Asks.attempt_asks Asks.subdivide_asks Asks.onward_asks Asks.asks_to Rims.on_rim_at Rims.rim_at Rims.rims_by
in_cells = tt

unfoldable pub in_divider : Unit {0}
unfolding Sets.between Sets.cosines_out Sets.limits_out
    Call.counts_out Call.outside Call.any_outside Call.units_out NodesFlat.on_sheet Call.usable Call.rims_out
    Call.lists_over Call.room_out_of Divide.refused Divide.answered Divide.core Divide.divide
in_divider = tt

-- the program: blocks, the call over lent lists, the printed lines, and the run
unfoldable pub in_program : Unit {0}
unfolding Table.tab Fields.pair Fields.word Fields.signed Fields.coordinate Fields.check_to Fields.any_used Blocks.head_wrong Blocks.size_wrong
    Blocks.unused_wrong Blocks.tested Blocks.refused_block Blocks.accepted_block Blocks.read_block NodesFlat.nodes_in QuadsFlat.over_cells Lent.divide_lent
    Text.bytes Text.digits Text.decimal Text.slots Text.filled_to Text.filled_by Text.stands_for Text.takes Report.hundredths Report.ring_line Report.nodes_line
    Report.quad_line Report.quad_lines Report.ring_text Report.refused_ring Report.refused_block Told.row_text Told.told_text Step.ends Step.waits Step.divides
    Step.taken Step.answered Step.step_of Run.onward Run.ran Run.read_to Run.whole_run Run.printed
in_program = tt

unfoldable pub computing : Unit {0}
unfolding in_program in_doubles in_vector in_root in_chain in_clean in_simple in_marks in_corner in_diagonal in_split in_cells in_divider
computing = tt
