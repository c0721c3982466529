-- `code` decodes a character of one to four bytes.
use Rattle.writer.specs.Codes.{second_in, second_tail, third_in, third_tail, fourth_in, fourth_tail}
use native.Mathlib.Omega.{arith}
use borrow.Author.Rules.{rules}
use Rattle.writer.proofs.codes.code.Goals as goal

pub tail-second-requires : goal.tail-second-requires
tail-second-requires c = (search (second_in, rules), search (second_tail, rules))

pub tail-third-requires : goal.tail-third-requires
tail-third-requires c =
    let s = c.args in
    let p = c.requires in
    let e = c.byte-b.ensures.0 in
    (third_in s.s.now s.a p e (omega arith), third_tail s.s.now s.a p e (omega arith))

pub tail-fourth-requires : goal.tail-fourth-requires
tail-fourth-requires c =
    let s = c.args in
    let p = c.requires in
    let e = c.byte-b.ensures.0 in
    (fourth_in s.s.now s.a p e (omega arith), fourth_tail s.s.now s.a p e (omega arith))
