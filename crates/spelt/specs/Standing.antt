-- BYTES OF A TEXT THAT STAND IN THE DOCUMENT AS THEY ARE: the next one (`Standing`), and those that two texts have in common (`Common`). No room is looked into. Assumes nothing.
use Rattle.std.specs.Prelude.{◌≡◌, refl, List, [], ◌∷◌, ◌++◌, Bool, true, ℕ, ◌+◌, ◌≤◌, ◌<◌, length}
use Rattle.std.proofs.Common.{sym, ap, ◌∙◌, append_assoc, arith, rules}
use Rattle.language.specs.Answered.{limit}
use Rattle.language.specs.Strings.{keybyte}
use Rattle.exact.specs.Class.{is}
use Rattle.exact.specs.Place.{peek}
use Rattle.characters.specs.declared.Reading.{Reading}
use Rattle.characters.specs.Reads.{Took}
use Rattle.std.specs.declared.option.Option.TheVariants.{Some}
use Rattle.characters.specs.Reads.{ByteRead, byte_inside, byte_there}
use Rattle.characters.specs.Plains.{Quote, plain_of}
use Rattle.spelt.specs.declared.spelling.Spelling.{Spelling}
use Rattle.spelt.specs.Left.{After, left_quote, key_more, plain_more}
use Rattle.spelt.specs.Spelling.{Rest, Spellable, Gave, Nexts, weight, rest_tail, step}

-- the text behind a byte that stands as it is
abbrev pub further : Spelling → Spelling
further p = record { at = p.at + 1; quote = p.quote; from = 0; to = 0 }

-- some text is before it, in some room
pub record Spells (doc : List ℕ) (p : Spelling) : Type 0 where
  pub room : List ℕ
  pub able : Spellable doc room p

-- whatever text is before it, in whatever room, b is its first byte
pub record Stands (doc : List ℕ) (p : Spelling) (b : ℕ) : Type 0 where
  pub inside : p.at < length doc
  pub gave : (room : List ℕ) → Gave doc room p room b (further p)

-- THE CONTRACT: such a byte, or 256
pub record Standing (doc : List ℕ) (p : Spelling) (r : ℕ) : Type 0 where
  pub most : r ≤ 256
  pub stands : r < 256 → Stands doc p r

pub none_stands : (doc : List ℕ) (p : Spelling) → Standing doc p 256
none_stands doc p = record { most = omega arith; stands = λ l. absurd (omega arith) }

module _ (doc : List ℕ) (p : Spelling) (w : Spells doc p) (d : p.to ≤ p.from) where
  pub standing_quote : (p.quote ≡ 0 → ⊥) → Quote p.quote
  standing_quote n = left_quote doc p.quote p.at w.able.text (rest_tail doc w.room p w.able.text d w.able.rest) n

  module _ (t : Took) (h : ByteRead doc p.at t) (b : ℕ) (m : Reading) (e : t ≡ Some (b, m)) where
    there : b ≡ peek doc p.at
    there = byte_there doc p.at t h b m e

    stood : ((room s : List ℕ) → Rest doc room p s → After doc p.quote (p.at + 1) (peek doc p.at ∷ []) s) → b < 256 → Standing doc p b
    stood f l =
        record {
          most = omega arith;
          stands = λ g. record { inside = byte_inside doc p.at t h b m e; gave = λ room. rw there (step doc room p (peek doc p.at) (byte_inside doc p.at t h b m e) (f room)) };
        }

    module _ (x : Bool) where
      pub standing_key : p.quote ≡ 0 → x ≡ is keybyte b → x ≡ true → b < 256 → Standing doc p b
      standing_key z k y = stood (λ room s r. key_more doc p.quote p.at z s (rest_tail doc room p s d r) (ap (is keybyte) (sym there) ∙ (sym k ∙ y)))

      pub standing_plain : (p.quote ≡ 0 → ⊥) → x ≡ is (plain_of p.quote) b → x ≡ true → b < 256 → Standing doc p b
      standing_plain z k y = stood (λ room s r. plain_more doc p.quote p.at (standing_quote z) s (rest_tail doc room p s d r) (ap (is (plain_of p.quote)) (sym there) ∙ (sym k ∙ y)))

pub ruleset standing = (none_stands, standing_quote, standing_key, standing_plain, rules)

-- ---- as the next byte

module _ (doc : List ℕ) (p : Spelling) (b : ℕ) (x : Standing doc p b) (l : b < 256) where
  pub standing_next : (room : List ℕ) → Nexts doc room p room (Some (b, further p))
  unfolding Nexts
  standing_next room = (x.stands l).gave room

  pub standing_low : Spells doc p → p.at < limit
  standing_low w = omega (arith, (x.stands l).inside, w.able.short)

  pub standing_less : weight doc (further p) < weight doc p
  standing_less = ((x.stands l).gave []).less

-- ---- bytes that two texts have in common

-- whatever text is before p, it is these bytes and what is before n
pub record Along (doc room w : List ℕ) (n : Spelling) (s : List ℕ) : Type 0 where
  pub others : List ℕ
  pub is : s ≡ w ++ others
  pub rest : Rest doc room n others

pub record Passed (doc : List ℕ) (p : Spelling) (w : List ℕ) (n : Spelling) : Type 0 where
  pub less : weight doc n ≤ weight doc p
  pub more : (room s : List ℕ) → Rest doc room p s → Along doc room w n s

-- THE CONTRACT: the same bytes are passed in both
pub record Common (doc : List ℕ) (p q n m : Spelling) : Type 0 where
  pub bytes : List ℕ
  pub one : Passed doc p bytes n
  pub two : Passed doc q bytes m

module _ (doc : List ℕ) where
  pub common_none : (p q : Spelling) → Common doc p q p q
  common_none p q = record { bytes = []; one = none p; two = none q }
    where
      none : (p : Spelling) → Passed doc p [] p
      none p = record { less = omega arith; more = λ room s r. record { others = s; is = refl; rest = r } }

  one_more : (p n : Spelling) (w : List ℕ) (b : ℕ) → Passed doc p w n → Stands doc n b → Passed doc p (w ++ (b ∷ [])) (further n)
  one_more p n w b x y =
      record {
        less = let l = (y.gave []).less in omega (arith, x.less);
        more = λ room s r.
            let a = x.more room s r in
            let g = (y.gave room).more a.others a.rest in
            record { others = g.others; is = a.is ∙ (ap (w ++◌) g.is ∙ sym (append_assoc w (b ∷ []) g.others)); rest = g.rest };
      }

  on : (p n : Spelling) (w : List ℕ) → Passed doc p w n → Spells doc p → Spells doc n
  on p n w x y =
      let a = x.more y.room y.able.text y.able.rest in
      record { room = y.room; able = record { short = y.able.short; long = y.able.long; text = a.others; rest = a.rest } }

  module _ (p q n m : Spelling) (c : Common doc p q n m) where
    pub common_one : Spells doc p → Spells doc n
    common_one = on p n c.bytes c.one

    pub common_two : Spells doc q → Spells doc m
    common_two = on q m c.bytes c.two

    module _ (v w : ℕ) (x : Standing doc n v) (y : Standing doc m w) (l : v ≤ 255) (e : v ≡ w) where
      pub common_low : Spells doc p → n.at < limit
      common_low z = standing_low doc n v x (omega arith) (common_one z)

      pub common_low₂ : Spells doc q → m.at < limit
      common_low₂ z = standing_low doc m w y (omega arith) (common_two z)

      module _ (n' m' : Spelling) (i : n' ≡ further n) (j : m' ≡ further m) where
        pub common_less : weight doc n' < weight doc n
        common_less = rw i (standing_less doc n v x (omega arith))

        pub common_more : Common doc p q n' m'
        common_more =
            rw (i, j)
            (record {
              bytes = c.bytes ++ (v ∷ []);
              one = one_more p n c.bytes v c.one (x.stands (omega arith));
              two = one_more q m c.bytes v c.two (rw e (y.stands (omega arith)));
            })

pub ruleset passing = (common_none, common_one, common_two, common_low, common_low₂, common_less, common_more, rules)
