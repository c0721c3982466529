-- Keys: laws of the returns of `name` and `key`.
use mathlib.Core.Path.{◌≡◌, refl, sym, ap, ◌∙◌}
use mathlib.Core.List.{List, ◌∷◌}
use mathlib.Core.Bool.{Bool, true, false}
use Prim.Native.Nat.{ℕ, suc, ◌-◌, ◌<◌}
use native.Mathlib.Numerals.{add-one}
use native.Mathlib.Omega.{arith}
use lib.ListN.{length, drop}
use lib.Seq.{slice, slice-cons, length-slice}
use borrow.Author.Rules.{rules}
use Rattle.exact.specs.Class.{is}
use Rattle.exact.specs.Out.{ok, bind}
use Rattle.exact.specs.Place.{peek, byte_peek, alt_peek, run_end, run_end_lem, run_more}
use Rattle.language.specs.Kind.{KEY}
use Rattle.language.specs.Strings.{keybyte}
use Rattle.language.specs.Tree.{unescaped}
use Rattle.exact.specs.Lang.{ret_r}
use Rattle.exact.specs.Comb.{map_r}
use Rattle.rooms.specs.declared.Cursor.{Cursor}
use Rattle.rooms.specs.Contract.{Ans}
use Rattle.std.specs.declared.result.Result.TheVariants.{Err, Ok}
use Rattle.rooms.specs.Contract.{Ready, Answers}
use Rattle.characters.specs.Plains.{RunTo}
use Rattle.strings.specs.Quoted.{quoted_r}
use Rattle.strings.specs.Keys.{bare_r, name_r, key_r}
use Rattle.strings.specs.Inside.{Copied, Close, Leafed}
use Rattle.strings.specs.Contract.{Texts}
use Rattle.strings.proofs.DigitLaws.{class_in}
use Rattle.strings.proofs.LeafLaws.{text_close, spanned_bad, spanned_read}

-- ---- a bare key

module _ (doc : List ℕ) (c : Cursor) (b : ℕ) (look : b ≡ peek doc c.at) (x : Bool) (k : x ≡ is keybyte b) where
  named : x ≡ true → name_r c.at (drop c.at doc) ≡ map_r unescaped bare_r c.at (drop c.at doc)
  unfolding name_r
  named t = alt_peek doc c.at keybyte refl (map_r unescaped bare_r) quoted_r ∙ rw (← look, ← k, t) refl

  unnamed : x ≡ false → name_r c.at (drop c.at doc) ≡ quoted_r c.at (drop c.at doc)
  unfolding name_r
  unnamed t = alt_peek doc c.at keybyte refl (map_r unescaped bare_r) quoted_r ∙ rw (← look, ← k, t) refl

  module _ (n : Cursor) (T T' : List ℕ) (cop : Copied (RunTo keybyte) doc c n T T') (t : x ≡ true) where
    bare_key : (c.at < n.at) × (bare_r c.at (drop c.at doc) ≡ ok (slice c.at n.at doc) n.at (drop n.at doc))
    unfolding bare_r
    bare_key =
        let h : is keybyte (peek doc c.at) ≡ true = rw (← look) (sym k ∙ t) in
        let l = class_in keybyte doc c.at refl h in
        let e : n.at ≡ run_end keybyte doc (suc c.at) = cop.run.is ∙ (run_more keybyte doc c.at l h ∙ ap (run_end keybyte doc) (add-one c.at)) in
        let g : c.at < n.at = omega arith in
        let s : slice c.at n.at doc ≡ peek doc c.at ∷ slice (suc c.at) n.at doc = slice-cons c.at n.at doc 256 g cop.run.inside in
        (g, rw (byte_peek doc c.at keybyte refl, h, run_end_lem keybyte doc (suc c.at), ← e) (ap (λ v. ok v n.at (drop n.at doc)) (sym s)))

    pub bare_text : Texts doc c (name_r c.at (drop c.at doc)) (Ok n) T T'
    unfolding Texts
    bare_text =
        let l : length (slice c.at n.at doc) ≡ n.at - c.at = length-slice c.at n.at doc cop.run.inside in
        record {
          value = unescaped (slice c.at n.at doc);
          is = named t ∙ ap (λ o. bind o (λ s. ret_r (unescaped s))) bare_key.1;
          spelt =
              record {
                ahead = bare_key.0;
                inside = cop.run.inside;
                row = cop.row;
                end = omega (arith, cop.end);
                few = omega (arith, cop.run.from);
                scant = omega (arith, cop.run.from);
                room = cop.room;
              };
        }

  -- ---- a quoted key

  pub quoted_text : (a : Ans) (T T' : List ℕ) → x ≡ false → Texts doc c (quoted_r c.at (drop c.at doc)) a T T' → Texts doc c (name_r c.at (drop c.at doc)) a T T'
  quoted_text a T T' t h = rw (unnamed t) h

pub ruleset names = (bare_text, quoted_text, rules)

-- ---- a key and its row, read at the same cursor made anew

pub anew_ready : (doc : List ℕ) (c m : Cursor) → m ≡ c → Ready doc c → Ready doc m
anew_ready doc c m e ready = rw e ready

module _ (doc : List ℕ) (c m : Cursor) (same : m ≡ c) (a : Ans) (T T' : List ℕ) (h : Texts doc m (name_r m.at (drop m.at doc)) a T T') where
  name_text : Texts doc c (name_r c.at (drop c.at doc)) a T T'
  name_text = rw same at h

  pub key_close : (n : Cursor) → Ready doc c → a ≡ Ok n → Close c n
  key_close n ready e = text_close doc c n _ a T T' ready e name_text

  pub key_not : (p : ℕ) (R R' : List ℕ) (q : ℕ) → a ≡ Err q → Answers doc c p (key_r c.at (drop c.at doc)) (Err q) R R' T T'
  unfolding key_r
  key_not p R R' q e = spanned_bad KEY name_r doc c p a T T' name_text R R' q e

  pub key_read : (p : ℕ) (R R' : List ℕ) (n i : Cursor) → Ready doc c → a ≡ Ok n → Leafed c n p KEY i R R' → Answers doc c p (key_r c.at (drop c.at doc)) (Ok i) R R' T T'
  unfolding key_r
  key_read p R R' n i ready e f = spanned_read KEY name_r doc c p a T T' name_text R R' n i ready (omega arith) e f

pub ruleset keys = (anew_ready, key_close, key_not, key_read, rules)
