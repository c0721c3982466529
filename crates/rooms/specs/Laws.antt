-- What a return of a reader in code has to show, from what the tests and the calls on the way say: each law's conclusion is the contract. Assumes nothing.
use Rattle.std.specs.Prelude.{◌≡◌, refl, List, [], ℕ, ◌+◌, ◌*◌, ◌≤◌, ◌<◌, drop, get_or}
use Rattle.std.proofs.Math.Path.{sym}
use Rattle.std.proofs.Common.{◌∙◌, add-zero}
use Rattle.std.proofs.Math.Bool.{true, false}
use native.Mathlib.Omega.{arith}
use Rattle.std.proofs.Math.ListN.{length, get_or-eq_default}
use Rattle.std.proofs.lemmas.List.Edits.{sets}
use Rattle.std.proofs.Math.Dec.{leb}
use borrow.Author.Tests.{le-leb, lt-leb}
use Rattle.exact.specs.Out.{Out, bad, Reader}
use Rattle.exact.specs.Class.{is, only}
use Rattle.exact.specs.Comb.{alt_r}
use Rattle.exact.specs.Lines.{reached}
use Rattle.exact.specs.Place.{peek, get_d_any, alt_is, alt_not}
use Rattle.language.specs.Kind.{TRUE}
use Rattle.language.specs.Tree.{unlined, Decoded, unescaped, Tree, leaf, width, size, text_of, escapes_of, rows_of, row_list}
use Rattle.rooms.specs.Told.{ESCAPE, spot, tally, told, spot_on, tally_on}
use Rattle.rooms.specs.declared.Cursor.{Cursor}
use Rattle.std.specs.declared.option.Option.TheVariants.{None, Some}
use Rattle.std.specs.declared.result.Result.TheVariants.{Err, Ok}
use Rattle.rooms.specs.Contract.{Step, Ans, Far, Block, onward, Stepped, Takes, Ready, Taken, Answers, Reaches, Blocked, Blocks}

-- ---- the cursor

module _ (doc : List ℕ) (c : Cursor) where
  pub stepped : (n : Cursor) → c.at < length doc → n ≡ onward c 1 → Stepped doc c (Some (get_or doc c.at 0, n))
  unfolding Stepped
  stepped n l h = (l, get_d_any doc c.at 0 256 l, h)

  pub stepped_over : length doc ≤ c.at → Stepped doc c None
  unfolding Stepped
  stepped_over l = (l, get_or-eq_default doc 256 l)

  -- .. and taken apart
  module _ (s : Step) (h : Stepped doc c s) where
    pub step_byte : (b : ℕ) (n : Cursor) → s ≡ Some (b, n) → b ≡ peek doc c.at
    unfolding Stepped
    step_byte b n e = (rw e at h).1

    pub step_next : (b : ℕ) (n : Cursor) → s ≡ Some (b, n) → n ≡ onward c 1
    unfolding Stepped
    step_next b n e = (rw e at h).2

    pub step_inside : (b : ℕ) (n : Cursor) → s ≡ Some (b, n) → c.at < length doc
    unfolding Stepped
    step_inside b n e = (rw e at h).0

    pub step_over : s ≡ None → peek doc c.at ≡ 256
    unfolding Stepped
    step_over e = (rw e at h).1

    pub takes_it : (b g : ℕ) (n : Cursor) → s ≡ Some (g, n) → g ≡ b → Takes doc c b (Ok n)
    unfolding Takes
    takes_it b g n e k = (step_next g n e, sym k ∙ step_byte g n e)

    pub takes_other : (b g : ℕ) (n : Cursor) → s ≡ Some (g, n) → (g ≡ b → ⊥) → Takes doc c b (Err c.at)
    unfolding Takes
    takes_other b g n e k = (refl, λ z. k (step_byte g n e ∙ z))

    pub takes_none : (b : ℕ) → b < 256 → s ≡ None → Takes doc c b (Err c.at)
    unfolding Takes
    takes_none b l e = let z = step_over e in (refl, λ k. omega arith)

  module _ (b : ℕ) (a : Ans) (h : Takes doc c b a) where
    pub take_next : (n : Cursor) → a ≡ Ok n → n ≡ onward c 1
    unfolding Takes
    take_next n e = (rw e at h).0

    pub take_byte : (n : Cursor) → a ≡ Ok n → b ≡ peek doc c.at
    unfolding Takes
    take_byte n e = (rw e at h).1

    pub take_place : (p : ℕ) → a ≡ Err p → p ≡ c.at
    unfolding Takes
    take_place p e = (rw e at h).0

    pub take_other : (p : ℕ) → a ≡ Err p → peek doc c.at ≡ b → ⊥
    unfolding Takes
    take_other p e = (rw e at h).1

-- ---- answers, made and taken apart

module _ (doc : List ℕ) (c : Cursor) (p : ℕ) (o : Out Tree) (R R' T T' : List ℕ) where
  pub refused : (q : ℕ) → o ≡ bad q → Answers doc c p o (Err q) R R' T T'
  unfolding Answers
  refused q h = h

  pub took : (n : Cursor) → Taken doc c p o n 0 R R' T T' → Answers doc c p o (Ok n) R R' T T'
  unfolding Answers
  took n h = h

  pub taken : (a : Ans) (n : Cursor) → a ≡ Ok n → Answers doc c p o a R R' T T' → Taken doc c p o n 0 R R' T T'
  unfolding Answers
  taken a n e h = rw e at h

  pub refusal : (a : Ans) (q : ℕ) → a ≡ Err q → Answers doc c p o a R R' T T' → o ≡ bad q
  unfolding Answers
  refusal a q e h = rw e at h

  pub not_reached : (q : ℕ) → o ≡ bad q → Reaches doc c p o (Err q) R R' T T'
  unfolding Reaches
  not_reached q h = h

  pub reaching : (n : Cursor) (far : ℕ) → Taken doc c p o n far R R' T T' → Reaches doc c p o (Ok (n, far)) R R' T T'
  unfolding Reaches
  reaching n far h = h

  pub reached_taken : (a : Far) (n : Cursor) (far : ℕ) → a ≡ Ok (n, far) → Reaches doc c p o a R R' T T' → Taken doc c p o n far R R' T T'
  unfolding Reaches
  reached_taken a n far e h = rw e at h

  pub reached_refusal : (a : Far) (q : ℕ) → a ≡ Err q → Reaches doc c p o a R R' T T' → o ≡ bad q
  unfolding Reaches
  reached_refusal a q e h = rw e at h

  pub not_block : (q : ℕ) → o ≡ bad q → Blocks doc c p o (Err q) R R' T T'
  unfolding Blocks
  not_block q h = h

  pub a_block : (n : Cursor) (far e : ℕ) → Blocked doc c p o n far e R R' T T' → Blocks doc c p o (Ok (n, far, e)) R R' T T'
  unfolding Blocks
  a_block n far e h = h

  pub block_taken : (a : Block) (n : Cursor) (far e : ℕ) → a ≡ Ok (n, far, e) → Blocks doc c p o a R R' T T' → Blocked doc c p o n far e R R' T T'
  unfolding Blocks
  block_taken a n far e z h = rw z at h

  pub block_refusal : (a : Block) (q : ℕ) → a ≡ Err q → Blocks doc c p o a R R' T T' → o ≡ bad q
  unfolding Blocks
  block_refusal a q z h = rw z at h

-- ---- a leaf, of a kind with a text and of one without

module _ (doc : List ℕ) (c : Cursor) (p : ℕ) (o : Out Tree) (k e far : ℕ) (ahead : c.at < e) (inside : e ≤ length doc) (R R' T T' : List ℕ) where
  pub leaf_text : (s : Decoded) → Ready doc c → o ≡ reached far (leaf k c.at e s) e (drop e doc) → TRUE < k → c.at + length s.bytes ≤ e → c.at + s.escapes ≤ e
      → R' ≡ sets R (width * c.row) (row_list unlined k c.at e (spot c.text) (spot c.text + length s.bytes) p (c.row + 1)) → T' ≡ sets T (spot c.text) s.bytes
      → Taken doc c p o (record { at = e; row = c.row + 1; text = c.text + told s }) far R R' T T'
  unfolding size text_of escapes_of rows_of
  leaf_text s d h l f g r t =
      let z : leb k TRUE ≡ false = lt-leb k TRUE l in
      let b : spot c.text + length s.bytes < ESCAPE = omega (arith, d.small, d.few_text) in
      record {
        tree = leaf k c.at e s;
        is = h;
        span =
            record {
              ahead = ahead;
              inside = inside;
              row = refl;
              text = spot_on c.text (length s.bytes) s.escapes b;
              escapes = tally_on c.text (length s.bytes) s.escapes b;
              few_rows = omega arith;
              few_text = f;
              few_escapes = g;
            };
        filled = record { table = rw z r; room = t };
      }

  pub leaf_bare : o ≡ reached far (leaf k c.at e (unescaped [])) e (drop e doc) → k ≤ TRUE → R' ≡ sets R (width * c.row) (row_list unlined k c.at e 0 0 p (c.row + 1)) → T' ≡ T
      → Taken doc c p o (record { at = e; row = c.row + 1; text = c.text }) far R R' T T'
  unfolding size text_of escapes_of rows_of
  leaf_bare h l r t =
      let z : leb k TRUE ≡ true = le-leb k TRUE l in
      record {
        tree = leaf k c.at e (unescaped []);
        is = h;
        span = record { ahead = ahead; inside = inside; row = refl; text = sym (add-zero (spot c.text)); escapes = sym (add-zero (tally c.text)); few_rows = omega arith; few_text = omega arith; few_escapes = omega arith };
        filled = record { table = rw z r; room = t };
      }

-- ---- one reader in place of another, by the byte b at the cursor

module _ (doc : List ℕ) (c : Cursor) (p : ℕ) (a : Ans) (R R' T T' : List ℕ) (b : ℕ) (h : b ≡ peek doc c.at) where
  abbrev pub Via : Reader Tree → Type 0
  Via r = Answers doc c p (r c.at (drop c.at doc)) a R R' T T'

  pub via_first : (d : ℕ) (r q : Reader Tree) → d < 256 → b ≡ d → Via r → Via (alt_r (is (only d)) r q)
  via_first d r q l k x = rw (alt_is doc c.at d b l h r q k) x

  pub via_other : (d : ℕ) (r q : Reader Tree) → d < 256 → (b ≡ d → ⊥) → Via q → Via (alt_r (is (only d)) r q)
  via_other d r q l k x = rw (alt_not doc c.at d b l h r q k) x
