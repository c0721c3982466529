-- What two bytes, the end of a member, a bracket, and a key with its colon say of their readers.
use mathlib.Core.Path.{◌≡◌, refl, ap, ◌∙◌}
use mathlib.Core.List.{List, [], ◌∷◌}
use Prim.Native.Nat.{ℕ, ◌+◌, ◌≤◌}
use native.Mathlib.Omega.{arith}
use lib.ListN.{length, drop}
use borrow.Author.Rules.{rules}
use Rattle.language.specs.Tree.{Tree}
use Rattle.exact.specs.Out.{Out, bind}
use Rattle.exact.specs.Lang.{ret_r}
use Rattle.exact.specs.Comb.{seq_r}
use Rattle.exact.specs.Ll.{word_r}
use Rattle.exact.specs.Place.{peek}
use Rattle.rooms.specs.declared.Cursor.{Cursor}
use Rattle.rooms.specs.Contract.{Ans}
use Rattle.std.specs.declared.result.Result.TheVariants.{Err, Ok}
use Rattle.rooms.specs.Contract.{onward, Takes, Ready, Span, Taken, Answers}
use Rattle.rooms.specs.Laws
use Rattle.inline.specs.declared.Sep.TheVariants.{More, Last}
use Rattle.strings.specs.Keys.{key_r}
use Rattle.inline.specs.Brackets.{label_r}
use Rattle.inline.specs.Passes.{word_two, word_none, passed_in}
use Rattle.inline.specs.Contract.{no_first, no_second, Passed, Parted, Opened}

-- ---- two bytes

module _ (doc : List ℕ) (c : Cursor) (first second : ℕ) (a : Ans) (h : Takes doc c first a) where
  pub pass_none : (p : ℕ) → a ≡ Err p → Passed doc c first second (Err p)
  unfolding Passed
  pass_none p e = rw (Laws.take_place doc c first a h p e) (no_first (Laws.take_other doc c first a h p e))

  -- .. by what the second take says
  pub pass_on : (n : Cursor) (b : Ans) → a ≡ Ok n → Takes doc n second b → Passed doc c first second b
  unfolding Passed Takes
  pass_on n (Ok m) e g =
      let k = Laws.take_next doc c first a h n e in
      let z : c.at + 1 + 1 ≡ c.at + 2 = omega arith in
      (g.0 ∙ rw (k, z) refl, Laws.take_byte doc c first a h n e, g.1 ∙ ap (λ m. peek doc m.at) k)
  pass_on n (Err p) e g =
      let k = Laws.take_next doc c first a h n e in
      let z : p ≡ c.at + 1 = g.0 ∙ ap (λ m. m.at) k in
      rw z (no_second (Laws.take_byte doc c first a h n e) (λ y. g.1 (ap (λ m. peek doc m.at) k ∙ y)))

-- ---- what follows a member

module _ (doc : List ℕ) (close : ℕ) (m : Cursor) (t : Ans) (h : Takes doc m close t) where
  pub parted_last : (n : Cursor) → t ≡ Ok n → Parted doc close m (Ok (Last n))
  unfolding Parted
  parted_last n e = (Laws.take_next doc m close t h n e, Laws.take_byte doc m close t h n e)

  module _ (q : ℕ) (k : t ≡ Err q) (a : Ans) (w : Passed doc m 44 32 a) where
    pub parted_more : (n : Cursor) → a ≡ Ok n → Parted doc close m (Ok (More n))
    unfolding Parted Passed
    parted_more n e = rw e at w

    pub parted_bad : (p : ℕ) → a ≡ Err p → Parted doc close m (Err p)
    unfolding Parted Passed
    parted_bad p e = (Laws.take_other doc m close t h q k, rw e at w)

-- ---- behind a bracket

module _ (doc : List ℕ) (c : Cursor) (b : ℕ) (t : Ans) (h : Takes doc c b t) where
  pub opened_not : (p : ℕ) → t ≡ Err p → Opened doc c b (Err p)
  unfolding Opened
  opened_not p e = (Laws.take_place doc c b t h p e, Laws.take_other doc c b t h p e)

  pub opened_in : (n : Cursor) → t ≡ Ok n → Opened doc c b (Ok (record { at = n.at; row = c.row + 1; text = c.text }))
  unfolding Opened
  opened_in n e = (rw (Laws.take_next doc c b t h n e) refl, Laws.take_byte doc c b t h n e)

-- ---- the cursor behind a tree

pub ready_behind : (doc : List ℕ) (c n : Cursor) (t : Tree) → Ready doc c → Span doc c n t → Ready doc n
ready_behind doc c n t d s =
    record {
      small = d.small;
      inside = s.inside;
      few_rows = omega (arith, d.few_rows, s.row, s.few_rows);
      few_text = omega (arith, d.few_text, s.text, s.few_text);
      few_escapes = omega (arith, d.few_escapes, s.escapes, s.few_escapes);
    }

pub ready_after : (doc : List ℕ) (c : Cursor) (p : ℕ) (o : Out Tree) (a : Ans) (n : Cursor) (R R' T T' : List ℕ) → Ready doc c → a ≡ Ok n → Answers doc c p o a R R' T T' → Ready doc n
ready_after doc c p o a n R R' T T' d e w = let k = Laws.taken doc c p o R R' T T' a n e w in ready_behind doc c n k.tree d k.span

pub span_on : (doc : List ℕ) (c m n : Cursor) (t : Tree) (i : ℕ) → n ≡ onward m i → m.at + i ≤ length doc → Span doc c m t → Span doc c n t
span_on doc c m n t i e l s =
    rw e
    (record {
      ahead = omega (arith, s.ahead);
      inside = l;
      row = s.row;
      text = s.text;
      escapes = s.escapes;
      few_rows = omega (arith, s.few_rows);
      few_text = omega (arith, s.few_text);
      few_escapes = omega (arith, s.few_escapes);
    })

-- ---- a key and its colon

module _ (doc : List ℕ) (c : Cursor) (p : ℕ) (a : Ans) (R R' T T' : List ℕ) (w : Answers doc c p (key_r c.at (drop c.at doc)) a R R' T T') where
  pub label_none : (q : ℕ) → a ≡ Err q → Answers doc c p (label_r c.at (drop c.at doc)) (Err q) R R' T T'
  unfolding label_r
  label_none q e =
      Laws.refused doc c p _ R R' T T' q (ap (λ (o : Out Tree). bind o (λ k. seq_r (word_r (58 ∷ 32 ∷ [])) λ _. ret_r k)) (Laws.refusal doc c p _ R R' T T' a q e w))

  pub label_passed : (m : Cursor) (b : Ans) → a ≡ Ok m → Passed doc m 58 32 b → Answers doc c p (label_r c.at (drop c.at doc)) b R R' T T'
  unfolding label_r
  label_passed m b e h = go b h
    where
      k : Taken doc c p (key_r c.at (drop c.at doc)) m 0 R R' T T'
      k = Laws.taken doc c p _ R R' T T' a m e w

      behind : label_r c.at (drop c.at doc) ≡ bind (word_r (58 ∷ 32 ∷ []) m.at (drop m.at doc)) (λ _. ret_r k.tree)
      behind = ap (λ (o : Out Tree). bind o (λ k. seq_r (word_r (58 ∷ 32 ∷ [])) λ _. ret_r k)) k.is

      go : (b : Ans) → Passed doc m 58 32 b → Answers doc c p (label_r c.at (drop c.at doc)) b R R' T T'
      go (Ok n) x =
          let i = passed_in doc m n 58 32 (omega arith) x in
          let at : n.at ≡ m.at + 2 = ap (λ (d : Cursor). d.at) i.0 in
          Laws.took doc c p _ R R' T T' n
          (record {
            tree = k.tree;
            is = behind ∙ rw at (ap (λ (o : Out ℕ). bind o (λ _. ret_r k.tree)) (word_two doc m 58 32 (omega arith) (omega arith) n x));
            span = span_on doc c m n k.tree 2 i.0 i.1 k.span;
            filled = k.filled;
          })
      go (Err q) x = Laws.refused doc c p _ R R' T T' q (behind ∙ ap (λ (o : Out ℕ). bind o (λ _. ret_r k.tree)) (word_none doc m 58 32 (omega arith) (omega arith) q x))

pub ruleset passing = (pass_none, pass_on, parted_last, parted_more, parted_bad, opened_not, opened_in, ready_after, label_none, label_passed, rules)
