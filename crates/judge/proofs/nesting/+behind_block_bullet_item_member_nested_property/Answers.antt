-- Blocks meet their contracts, one inside another: the allowance falls with each container, and within one the calls have an order.
use mathlib.Core.Path.{refl}
use Prim.Native.Nat.{◌-◌}
use Rattle.judge.proofs.NotingBlocks.{property_key, Noticed, block_done_notes, behind_noting, property_noting, member_noting, block_noting, item_noting, nested_noting}
use Rattle.judge.proofs.Colons.{property_ready, behind_colon, property_laws}
use Rattle.judge.proofs.Containers.{block_inside, block_encloses, block_done, bullet_encloses, member_laws, block_laws, bullet_laws, item_laws, nested_laws}
use borrow.Author.Rules.{rules}
use Prim.Native.Nat.{ℕ}
use Rattle.judge.proofs.nesting.member.Reads as member
use Rattle.judge.proofs.nesting.+behind_block_bullet_item_member_nested_property.Goals as goal

pub behind-enum_known-n : goal.behind-enum_known-n
behind-enum_known-n t c = search behind_colon

pub behind-on_line-requires : goal.behind-on_line-requires
behind-on_line-requires t c = search behind_colon

pub behind-returns-in-Ok : goal.behind-returns-in-Ok
behind-returns-in-Ok t c = rw c.anew_block.ensures (record { blocks = search behind_colon; notes = search behind_noting })

pub behind-enum_told-1 : goal.behind-enum_told-1
behind-enum_told-1 t c = search behind_colon

pub behind-nested-requires : goal.behind-nested-requires
behind-nested-requires t c = (search rules, (search behind_colon, search rules))

pub behind-returns-in_err-a : goal.behind-returns-in_err-a
behind-returns-in_err-a t c = record { blocks = search behind_colon; notes = search (c.in_err-a.was, behind_noting) }

pub behind-returns : goal.behind-returns
behind-returns t c = rw c.anew_block-2.ensures (record { blocks = search behind_colon; notes = search behind_noting })

pub block-loop-p-init : goal.block-loop-p-init
block-loop-p-init t c = (search block_noting, search rules, search rules, search rules)

pub block-member-requires : goal.block-member-requires
block-member-requires t c = search block_laws

pub block-returns-in-Err : goal.block-returns-in-Err
block-returns-in-Err t c = record { blocks = search block_laws; notes = search block_noting }

pub block-further-requires : goal.block-further-requires
block-further-requires t c = block_inside _ _ _ _ _ _ _ _ _ _ _ _ c.loop-p.invariant.0.loop _ _ _ c.member.ensures.members _ _ _ c.in-Ok.is

pub block-enclose-requires : goal.block-enclose-requires
block-enclose-requires t c = block_encloses _ _ _ _ _ _ _ _ _ _ _ _ c.loop-p.invariant.0.loop _ _ _ c.member.ensures.members _ _ _ c.in-Ok.is _ refl

pub block-returns-in-Err-further : goal.block-returns-in-Err-further
block-returns-in-Err-further t c = record { blocks = block_done _ _ _ _ _ _ _ _ _ _ _ _ c.loop-p.invariant.0.loop _ _ _ c.member.ensures.members _ _ _ c.in-Ok.is _ c.further.ensures _ _ _ _ _ _ c.in-Err-further.is c.max-far.ensures c.max-in-Err-further.ensures refl c.enclose.ensures; notes = block_done_notes _ _ _ _ _ _ _ _ _ _ _ _ _ _ c.loop-p.invariant.0 _ _ _ _ c.member.ensures.members c.member.ensures.notes _ _ _ c.in-Ok.is _ c.further.ensures _ _ c.in-Err-further.is }

pub block-enum_known-m : goal.block-enum_known-m
block-enum_known-m t c = search block_laws

pub block-loop-p-smaller : goal.block-loop-p-smaller
block-loop-p-smaller t c = search block_laws

pub block-loop-p-preserved : goal.block-loop-p-preserved
block-loop-p-preserved t c = (search block_noting, search rules, search rules, search rules)

pub bullet-member-requires : goal.bullet-member-requires
bullet-member-requires t c = search bullet_laws

pub bullet-enclose-requires : goal.bullet-enclose-requires
bullet-enclose-requires t c = bullet_encloses _ _ _ _ 0 _ _ _ _ _ c.member.ensures.members _ _ _ c.in_ok-n.was (search rules)

pub bullet-returns-in_err-n : goal.bullet-returns-in_err-n
bullet-returns-in_err-n t c = record { blocks = search bullet_laws; notes = search item_noting }

pub bullet-returns : goal.bullet-returns
bullet-returns t c = record { blocks = search bullet_laws; notes = search item_noting }

pub item-opener-requires : goal.item-opener-requires
item-opener-requires t c = search item_laws

pub item-returns-then-allow-eq0 : goal.item-returns-then-allow-eq0
item-returns-then-allow-eq0 t c = rw c.anew_block.ensures (record { blocks = search item_laws; notes = search item_noting })

pub item-starts-requires : goal.item-starts-requires
item-starts-requires t c = search item_laws

pub item-bullet-requires : goal.item-bullet-requires
item-bullet-requires t c = search item_laws

pub item-block-requires : goal.item-block-requires
item-block-requires t c = search item_laws

pub item-opener-line-requires : goal.item-opener-line-requires
item-opener-line-requires t c = search item_laws

pub item-returns-in-Dash : goal.item-returns-in-Dash
item-returns-in-Dash t c = record { blocks = search item_laws; notes = search item_noting }

pub item-returns-in-Key : goal.item-returns-in-Key
item-returns-in-Key t c = rw c.anew_block-in-Key.ensures (record { blocks = search item_laws; notes = search item_noting })

pub item-returns-in-Line : goal.item-returns-in-Line
item-returns-in-Line t c = record { blocks = search item_laws; notes = search item_noting }

pub member-property-requires : goal.member-property-requires
member-property-requires t c = search member_laws

pub member-returns-then-object : goal.member-returns-then-object
member-returns-then-object t c = record { members = search member_laws; notes = search member_noting }

pub member-pass-requires : goal.member-pass-requires
member-pass-requires t c = search member_laws

pub member-enum_known-n : goal.member-enum_known-n
member-enum_known-n t c = search member_laws

pub member-item-requires : goal.member-item-requires
member-item-requires t c = (search rules, (search member_laws, search rules))

pub member-returns-in_err-n : goal.member-returns-in_err-n
member-returns-in_err-n t c = record { members = search member_laws; notes = search (c.in_err-n.was, member_noting) }

pub member-returns : goal.member-returns
member-returns t c = record { members = search member_laws; notes = search member_noting }

pub nested-returns-then-i-col : goal.nested-returns-then-i-col
nested-returns-then-i-col t c = record { blocks = search nested_laws; notes = search nested_noting }

pub nested-nested_line-requires : goal.nested-nested_line-requires
nested-nested_line-requires t c = search nested_laws

pub nested-returns-then-allow-eq0 : goal.nested-returns-then-allow-eq0
nested-returns-then-allow-eq0 t c = record { blocks = search nested_laws; notes = search nested_noting }

pub nested-starts-requires : goal.nested-starts-requires
nested-starts-requires t c = search nested_laws

pub nested-block-requires : goal.nested-block-requires
nested-block-requires t c = (search rules, (search nested_laws, search rules))

pub nested-block-requires-in-Key : goal.nested-block-requires-in-Key
nested-block-requires-in-Key t c = (search rules, (search nested_laws, search rules))

pub nested-nested_line-line-requires : goal.nested-nested_line-line-requires
nested-nested_line-line-requires t c = search nested_laws

pub nested-returns-in-Dash : goal.nested-returns-in-Dash
nested-returns-in-Dash t c = record { blocks = search nested_laws; notes = search nested_noting }

pub nested-returns-in-Key : goal.nested-returns-in-Key
nested-returns-in-Key t c = rw c.anew_block.ensures (record { blocks = search nested_laws; notes = search nested_noting })

pub nested-returns-in-Line : goal.nested-returns-in-Line
nested-returns-in-Line t c = record { blocks = search nested_laws; notes = search nested_noting }

pub property-take-requires : goal.property-take-requires
property-take-requires t c = search property_laws

pub property-enum_known-m : goal.property-enum_known-m
property-enum_known-m t c = search property_laws

pub property-note-requires : goal.property-note-requires
property-note-requires t c = property_key _ _ _ _ _ _ _ _ c.key_row.ensures _ c.in_ok-n.was c.requires.stands.small

pub property-behind-requires : goal.property-behind-requires
property-behind-requires t c = (search rules, (property_ready _ _ _ _ _ _ _ _ c.key_row.ensures _ _ c.in_ok-n.was c.take.ensures _ c.in_ok-m.was c.requires.stands, c.requires.allow_bound))

pub property-returns-in_err-n : goal.property-returns-in_err-n
property-returns-in_err-n t c = record { members = search property_laws; notes = search (c.in_err-n.was, property_noting) }

pub property-returns-in_err-m : goal.property-returns-in_err-m
property-returns-in_err-m t c = record { members = search property_laws; notes = search (c.in_err-m.was, c.in_ok-n.was, property_noting) }

pub property-returns : goal.property-returns
property-returns t c = record { members = search property_laws; notes = search property_noting }
