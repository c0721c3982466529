-- `filled` leaves the rows and the text of the tree in the rooms.
use Rattle.load.specs.Rooms.{rooming}
use Rattle.load.proofs.filled.Goals as goal

pub fill-requires : goal.fill-requires
fill-requires c = search rooming

pub fill-requires-else-stored-le-LONGEST : goal.fill-requires-else-stored-le-LONGEST
fill-requires-else-stored-le-LONGEST c = search rooming

pub shape_of-table-then-stored-le-LONGEST : goal.shape_of-table-then-stored-le-LONGEST
shape_of-table-then-stored-le-LONGEST c = search rooming

pub shape_of-text-then-stored-le-LONGEST : goal.shape_of-text-then-stored-le-LONGEST
shape_of-text-then-stored-le-LONGEST c = search rooming

pub returns-then-stored-le-LONGEST : goal.returns-then-stored-le-LONGEST
returns-then-stored-le-LONGEST c = search rooming

pub shape_of-table-else-stored-le-LONGEST : goal.shape_of-table-else-stored-le-LONGEST
shape_of-table-else-stored-le-LONGEST c = search rooming

pub shape_of-text-else-stored-le-LONGEST : goal.shape_of-text-else-stored-le-LONGEST
shape_of-text-else-stored-le-LONGEST c = search rooming

pub returns-else-stored-le-LONGEST : goal.returns-else-stored-le-LONGEST
returns-else-stored-le-LONGEST c = search rooming
