-- The view of the code's join.
use Rattle.cilk_join.specs.declared.join.Join.{Join}
use Rattle.cilk_join.specs.AwaitedRows.{row_shown}
use Rattle.cilk_join.specs.Joins.{JoinView}
use Rattle.cilk_join.specs.Products.{product}

abbrev pub shown : Join → JoinView
shown j = record { row = row_shown product j.row; stolen = j.stolen; arrived = j.arrived; closed = j.closed }
