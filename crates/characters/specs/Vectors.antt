-- Borders of characters and comments, by running the readers. Assumes nothing.
use Rattle.std.specs.Prelude.{◌≡◌, refl, [], ◌∷◌}
use Rattle.exact.specs.Out.{ok, bad}
use Rattle.language.specs.Characters.{ascii}
use Rattle.utf8.specs.Utf8.{char_r}
use Rattle.characters.specs.Comments.{comment_r, line_comment_r, optional_comment_r}

-- U+00E9, U+20AC and U+1F600
two_bytes : char_r ascii 0 (195 ∷ 169 ∷ 10 ∷ []) ≡ ok (195 ∷ 169 ∷ []) 2 (10 ∷ [])
two_bytes = refl

three_bytes : char_r ascii 0 (226 ∷ 130 ∷ 172 ∷ []) ≡ ok (226 ∷ 130 ∷ 172 ∷ []) 3 []
three_bytes = refl

four_bytes : char_r ascii 0 (240 ∷ 159 ∷ 152 ∷ 128 ∷ []) ≡ ok (240 ∷ 159 ∷ 152 ∷ 128 ∷ []) 4 []
four_bytes = refl

-- overlong forms: C0 80, E0 80 80 and F0 80 80 80
overlong_two : char_r ascii 0 (192 ∷ 128 ∷ []) ≡ bad 0
overlong_two = refl

overlong_three : char_r ascii 0 (224 ∷ 128 ∷ 128 ∷ []) ≡ bad 1
overlong_three = refl

overlong_four : char_r ascii 0 (240 ∷ 128 ∷ 128 ∷ 128 ∷ []) ≡ bad 1
overlong_four = refl

-- U+0080, U+D800, U+FDD0, U+FFFE, U+1FFFE and U+110000 are refused at the byte that decides
control : char_r ascii 0 (194 ∷ 128 ∷ []) ≡ bad 1
control = refl

surrogate : char_r ascii 0 (237 ∷ 160 ∷ 128 ∷ []) ≡ bad 1
surrogate = refl

no_character : char_r ascii 0 (239 ∷ 183 ∷ 144 ∷ []) ≡ bad 2
no_character = refl

last_of_plane : char_r ascii 0 (239 ∷ 191 ∷ 190 ∷ []) ≡ bad 2
last_of_plane = refl

last_of_plane_one : char_r ascii 0 (240 ∷ 159 ∷ 191 ∷ 190 ∷ []) ≡ bad 3
last_of_plane_one = refl

past_the_last : char_r ascii 0 (244 ∷ 144 ∷ 128 ∷ 128 ∷ []) ≡ bad 1
past_the_last = refl

-- `# a` and a line feed; `#a ` and a line feed, refused at the line feed; `#` and a tab, which ends the comment
comment_read : comment_r 0 (35 ∷ 32 ∷ 97 ∷ 10 ∷ []) ≡ ok (32 ∷ 97 ∷ []) 3 (10 ∷ [])
comment_read = refl

comment_space : comment_r 0 (35 ∷ 97 ∷ 32 ∷ 10 ∷ []) ≡ bad 3
comment_space = refl

comment_tab : comment_r 0 (35 ∷ 9 ∷ []) ≡ ok [] 1 (9 ∷ [])
comment_tab = refl

-- one space and `#`: refused at the `#`; none: nothing is read
line_comment_near : line_comment_r 0 (32 ∷ 35 ∷ []) ≡ bad 1
line_comment_near = refl

no_comment : optional_comment_r 0 (10 ∷ []) ≡ ok [] 0 (10 ∷ [])
no_comment = refl
