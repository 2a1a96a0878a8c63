-- `leaf_holds` meets its contract. The loop keeps: the facets before this one but facet 0 pass.
use Rattle.dimension.specs.Sizes.{axes_of}
use Rattle.sheets.specs.Steps.{mark_of}
use Rattle.compatible.specs.Walking.{Facing}
use Rattle.compatible.proofs.leaf_holds.Given as goal

abbrev pub invariant-loop-facet : goal.invariant-loop-facet
invariant-loop-facet l = Facing (mark_of l.sheet.edition) l.sheet.edition.width l.sheet.bytes.now (axes_of l.sheet.dim) l.index.entries.now l.index.spread l.code l.facet
