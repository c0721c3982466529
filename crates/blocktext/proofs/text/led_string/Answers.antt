-- `led_string` meets its contract.
use Rattle.blocktext.proofs.StringLaws.{led_strings}
use Rattle.blocktext.proofs.text.led_string.Goals as goal

pub overflow_sub-n : goal.overflow_sub-n
overflow_sub-n c = search (led_strings, c.in_ok-e.was)

pub copy-requires : goal.copy-requires
copy-requires c = search (led_strings, c.in_ok-e.was)

pub overflow_add-c : goal.overflow_add-c
overflow_add-c c = search (led_strings, c.in_ok-e.was)

pub overflow_add-c-2 : goal.overflow_add-c-2
overflow_add-c-2 c = search (led_strings, c.in_ok-e.was)

pub below-requires : goal.below-requires
below-requires c = search (led_strings, c.in_ok-e.was)

pub returns : goal.returns
returns c = search (led_strings, c.in_ok-e.was)
