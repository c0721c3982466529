-- A member with what follows it: an element from its value, a pair from its key and its value.
use mathlib.Core.Path.{◌≡◌, ap, ◌∙◌}
use mathlib.Core.List.{List, [], ◌∷◌}
use mathlib.Core.Bool.{true, false}
use Prim.Native.Nat.{ℕ, ◌+◌, ◌≤◌, ◌<◌}
use native.Mathlib.Omega.{arith}
use lib.ListN.{length, drop}
use borrow.Author.Rules.{rules}
use Rattle.language.specs.Tree.{Tree, field}
use Rattle.exact.specs.Out.{Out, Reader, bind, ok}
use Rattle.exact.specs.Lang.{ret_r}
use Rattle.exact.specs.Comb.{seq_r}
use Rattle.exact.specs.Place.{peek_in}
use Rattle.rooms.specs.declared.Cursor.{Cursor}
use Rattle.rooms.specs.Contract.{Ans}
use Rattle.std.specs.declared.result.Result.TheVariants.{Err, Ok}
use Rattle.rooms.specs.Contract.{onward, Taken, Answers}
use Rattle.rooms.specs.Laws
use Rattle.inline.specs.Contract.{After}
use Rattle.inline.specs.declared.Sep.TheVariants.{More, Last}
use Rattle.inline.specs.Lists.{inline_pair_r}
use Rattle.inline.specs.Brackets.{label_r, pair_label}
use Rattle.inline.specs.Written.{written_one, written_append}
use Rattle.inline.specs.Contract.{Parted, Read, Stops, no_member, no_part, Turned}
use Rattle.inline.proofs.Passing.{span_on, ready_after}

-- ---- an element

module _ (close : ℕ) (small : close < 256) (doc : List ℕ) (c : Cursor) (p : ℕ) (r : Reader Tree) (a : Ans) (R R' T T' : List ℕ) (w : Answers doc c p (r c.at (drop c.at doc)) a R R' T T') where
  pub element_none : (q : ℕ) → a ≡ Err q → Turned false close doc c p r (Err q) R R' T T'
  unfolding Turned
  element_none q e = no_member (Laws.refusal doc c p _ R R' T T' a q e w)

  value_read : (m n : Cursor) (i : ℕ) → a ≡ Ok m → n ≡ onward m i → m.at + i ≤ length doc → Read false doc c p r n R R' T T'
  value_read m n i e h l =
      let k = Laws.taken doc c p _ R R' T T' a m e w in
      record {
        member = k.tree;
        after = m.at;
        is = k.is;
        ahead = k.span.ahead;
        written = written_one doc c n p k.tree R R' T T' (span_on doc c m n k.tree i h l k.span) k.filled;
      }

  pub element_turned : (m : Cursor) (s : After) → a ≡ Ok m → Parted doc close m s → Turned false close doc c p r s R R' T T'
  unfolding Turned Parted value_read
  element_turned m (Ok (More n)) e h =
      let i = peek_in doc (m.at + 1) 32 h.2 (omega arith) in
      record { read = value_read m n 2 e h.0 (omega arith); to = ap (λ (d : Cursor). d.at) h.0; comma = h.1; space = h.2 }
  element_turned m (Ok (Last n)) e h =
      let i = peek_in doc m.at close h.1 small in
      record { read = value_read m n 1 e h.0 (omega arith); to = ap (λ (d : Cursor). d.at) h.0; closed = h.1 }
  element_turned m (Err q) e h =
      let t = Laws.taken doc c p _ R R' T T' a m e w in
      no_part t.tree m.at t.is t.span.ahead h.0 h.1

-- ---- a pair

module _ (close : ℕ) (doc : List ℕ) (c : Cursor) (p : ℕ) (r : Reader Tree) (a : Ans) (R R' T T' : List ℕ) (w : Answers doc c p (label_r c.at (drop c.at doc)) a R R' T T') where
  pub pair_none : (q : ℕ) → a ≡ Err q → Turned true close doc c p (inline_pair_r r) (Err q) R R' T T'
  unfolding Turned
  pair_none q e =
      no_member (pair_label r c.at (drop c.at doc) ∙ ap (λ (o : Out Tree). bind o (λ k. seq_r r λ v. ret_r (field k v))) (Laws.refusal doc c p _ R R' T T' a q e w))

  module _ (R'' T'' : List ℕ) (m : Cursor) (e : a ≡ Ok m) where
    label : Taken doc c p (label_r c.at (drop c.at doc)) m 0 R R' T T'
    label = Laws.taken doc c p _ R R' T T' a m e w

    behind : inline_pair_r r c.at (drop c.at doc) ≡ bind (r m.at (drop m.at doc)) (λ v. ret_r (field label.tree v))
    behind = pair_label r c.at (drop c.at doc) ∙ ap (λ (o : Out Tree). bind o (λ k. seq_r r λ v. ret_r (field k v))) label.is

    pair_is : (v : Tree) (b : ℕ) → r m.at (drop m.at doc) ≡ ok v b (drop b doc) → inline_pair_r r c.at (drop c.at doc) ≡ ok (field label.tree v) b (drop b doc)
    pair_is v b h = behind ∙ ap (λ (o : Out Tree). bind o (λ v. ret_r (field label.tree v))) h

    pair_read : (n : Cursor) → Read false doc m p r n R' R'' T' T'' → Read true doc c p (inline_pair_r r) n R R'' T T''
    pair_read n g =
        record {
          member = field label.tree g.member;
          after = g.after;
          is = pair_is g.member g.after g.is;
          ahead = omega (arith, label.span.ahead, g.ahead);
          written =
              written_append doc c m n p (label.tree ∷ []) (g.member ∷ []) R R' R'' T T' T'' (written_one doc c m p label.tree R R' T T' label.span label.filled) g.written;
        }

    pair_stops : (q : ℕ) → Stops false close doc m.at r q → Stops true close doc c.at (inline_pair_r r) q
    pair_stops q (no_member h) = no_member (behind ∙ ap (λ (o : Out Tree). bind o (λ v. ret_r (field label.tree v))) h)
    pair_stops q (no_part v b h l x y) = no_part (field label.tree v) b (pair_is v b h) (omega (arith, label.span.ahead)) x y

    pub pair_turned : (s : After) → Turned false close doc m p r s R' R'' T' T'' → Turned true close doc c p (inline_pair_r r) s R R'' T T''
    unfolding Turned pair_read
    pair_turned (Ok (More n)) x = record { read = pair_read n x.read; to = x.to; comma = x.comma; space = x.space }
    pair_turned (Ok (Last n)) x = record { read = pair_read n x.read; to = x.to; closed = x.closed }
    pair_turned (Err q) x = pair_stops q x

pub ruleset turning = (element_none, element_turned, pair_none, pair_turned, ready_after, rules)
