-- `facet_holds` meets its contract: a refused crossing is a facet in a face of the cube, since there is room for every code.
use Rattle.dimension.specs.Sizes.{most_axes, halvings}
use Rattle.dimension.specs.Laws.{longest_is}
use Rattle.compatible.specs.FacetLaws.{facet_code, facet_wall, facet_next, facet_looked}
use borrow.Author.Rules.{rules}
use Rattle.compatible.proofs.facet_holds.Goals as goal

pub known-requires : goal.known-requires
known-requires c = search (rules, facet_code)

pub is_matched-requires : goal.is_matched-requires
is_matched-requires c = facet_next c.requires (rw c.known.ensures at c.in-Ok.ensures)

pub returns-in_default : goal.returns-in_default
unfolding most_axes halvings
returns-in_default c = facet_wall c.requires c.in_default.field-0 (rw c.known.ensures at c.in_default.ensures) longest_is

pub returns : goal.returns
returns c = facet_looked c.requires (rw c.known.ensures at c.in-Ok.ensures) c.from.ensures c.is_matched.ensures
