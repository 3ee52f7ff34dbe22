-- Rows of the definitions, worked out by hand.
use Rattle.std.proofs.Common.{◌≡◌, ◌<◌, ℕ, List, true, false, Some, None, [], ◌∷◌, map, take, codes, refl, arith, pos}
use Rattle.std.proofs.Common.{negsuc, w8, w16, w32, w64}
use Rattle.std.specs.Int.{to_be_bytes, w128}
use Rattle.rart_keys.specs.KeyBytes.{IsWithin, AreBytes}
use Rattle.rart_keys.specs.CommonPrefix.{IsCommonPrefixLength}
use Rattle.rart_keys.specs.LittleEndianWord.{little_endian_number}
use Rattle.rart_keys.specs.NumberBytes.{sign_flipped, big_endian_number}
use Rattle.rart_keys.proofs.maps.JoinLengths.{apart-from_length, keys-from_length, length-from_keys}
use Rattle.rart_keys.proofs.strings.CommonPrefixes.{greatest_from_value}
use Rattle.rart_keys.specs.ByteStrings.{IsLess, begins, byte_after, strip_prefix}
use Rattle.rart_keys.specs.ByteTexts.{key_text}
use Rattle.std.specs.declared.ops.Bound.TheVariants.{Included, Excluded, Unbounded}
use Rattle.rart_keys.specs.Filters.{below, without_prefix, matches, longest_match}
use Rattle.rart_keys.specs.Joins.{AreKeysOf, ShareNoKey, join}
use Rattle.rart_keys.specs.Ranges.{between}
use Rattle.rart_keys.specs.SortedMap.{lookup, put, without}

-- 513 is twice 256 and one, so its bytes from the lowest on are 1 and 2
word_of_two_bytes : little_endian_number (1 ∷ 2 ∷ []) ≡ 513
word_of_two_bytes = refl

word_of_no_bytes : little_endian_number [] ≡ 0
word_of_no_bytes = refl

-- a full width is within the maximum, and one byte more is not
full_width : IsWithin (Some 4) 4
full_width = omega arith

above_full_width : ¬ IsWithin (Some 4) 5
above_full_width h = omega arith

without_maximum : IsWithin None 1000
without_maximum = tt

-- the greatest byte is 255
above_greatest_byte : ¬ AreBytes (256 ∷ [])
above_greatest_byte h = let b : 256 < 256 = h 0 in omega arith

-- both greetings begin with "Hello, "
greetings : IsCommonPrefixLength (codes "Hello, world!") (codes "Hello, there!") 7
greetings = greatest_from_value _ _ 7 refl

-- a string that begins another is common as a whole
beginning : IsCommonPrefixLength (codes "cat") (codes "catalog") 3
beginning = greatest_from_value _ _ 3 refl

-- the empty string has nothing in common with any
nothing : IsCommonPrefixLength [] (codes "a") 0
nothing = greatest_from_value _ _ 0 refl

-- a proper beginning is below its extension; the first place that differs decides
beginning_below : IsLess (97 ∷ []) (97 ∷ 98 ∷ [])
beginning_below = refl

first_difference_decides : IsLess (97 ∷ 98 ∷ 99 ∷ []) (97 ∷ 99 ∷ [])
first_difference_decides = refl

nothing_begins_all : (begins [] (97 ∷ []) ∷ begins (97 ∷ []) (97 ∷ []) ∷ begins (97 ∷ 98 ∷ []) (97 ∷ [])
    ∷ begins (98 ∷ []) (97 ∷ 98 ∷ []) ∷ []) ≡ true ∷ true ∷ false ∷ false ∷ []
nothing_begins_all = refl

rest_and_next_byte : (strip_prefix (97 ∷ []) (97 ∷ 98 ∷ []) ≡ Some (98 ∷ []))
    × (byte_after (97 ∷ []) (97 ∷ 98 ∷ []) ≡ Some 98) × (byte_after (97 ∷ []) (97 ∷ []) ≡ None)
rest_and_next_byte = (refl, refl, refl)

-- "cat" 1, "catalog" 2, then "cab" 3, "cat" 5 and no "catalog": in order, each key once
abbrev cat : List ℕ
cat = 99 ∷ 97 ∷ 116 ∷ []

abbrev cab : List ℕ
cab = 99 ∷ 97 ∷ 98 ∷ []

abbrev catalog : List ℕ
catalog = 99 ∷ 97 ∷ 116 ∷ 97 ∷ 108 ∷ 111 ∷ 103 ∷ []

abbrev stored : List (List ℕ × ℕ)
stored = (cab, 3) ∷ (cat, 5) ∷ []

abbrev first_pair : List (List ℕ × ℕ)
first_pair = put cat 1 []

edited : without catalog (put cat 5 (put cab 3 (put catalog 2 first_pair))) ≡ stored
edited = refl

looked_up : (lookup cat stored ≡ Some 5) × (lookup catalog stored ≡ None)
looked_up = (refl, refl)

-- a number's highest byte comes first
bytes_of_numbers : (to_be_bytes w32 42 ≡ 0 ∷ 0 ∷ 0 ∷ 42 ∷ []) × (to_be_bytes w16 258 ≡ 1 ∷ 2 ∷ [])
    × (to_be_bytes w8 255 ≡ 255 ∷ [])
bytes_of_numbers = (refl, refl, refl)

-- -128, -1, 0 and 127 in order, and -1 in two bytes
bytes_of_signed_numbers : (map (λ n. to_be_bytes w8 (sign_flipped w8 n)) (negsuc 127 ∷ negsuc 0 ∷ pos 0 ∷ pos 127 ∷ [])
    ≡ (0 ∷ []) ∷ (127 ∷ []) ∷ (128 ∷ []) ∷ (255 ∷ []) ∷ [])
    × (to_be_bytes w16 (sign_flipped w16 (negsuc 0)) ≡ 127 ∷ 255 ∷ [])
bytes_of_signed_numbers = (refl, refl)

-- "ab" is 97 times 256 and 98; of the bytes of a 1 in sixteen the first eight are zeros
numbers_of_bytes : (big_endian_number (codes "ab") ≡ 24930) × (big_endian_number [] ≡ 0)
    × (big_endian_number (take 8 (to_be_bytes w128 1)) ≡ 0)
    × (big_endian_number (to_be_bytes w64 123213123123123) ≡ 123213123123123)
numbers_of_bytes = (refl, refl, refl, refl)

-- "" 0, "a" 1, "ab" 2, "b" 3
abbrev nested : List (List ℕ × ℕ)
nested = ([], 0) ∷ (97 ∷ [], 1) ∷ (97 ∷ 98 ∷ [], 2) ∷ (98 ∷ [], 3) ∷ []

-- those that begin with "a", with nothing, with "c"
pairs_below : (below (97 ∷ []) nested ≡ (97 ∷ [], 1) ∷ (97 ∷ 98 ∷ [], 2) ∷ []) × (below [] nested ≡ nested)
    × (below (99 ∷ []) nested ≡ [])
pairs_below = (refl, refl, refl)

-- those that don't begin with "a", with nothing, with "c"
pairs_not_below : (without_prefix (97 ∷ []) nested ≡ ([], 0) ∷ (98 ∷ [], 3) ∷ []) × (without_prefix [] nested ≡ [])
    × (without_prefix (99 ∷ []) nested ≡ nested)
pairs_not_below = (refl, refl, refl)

-- those whose key begins "abz", "", "c"
pairs_matched : (matches (97 ∷ 98 ∷ 122 ∷ []) nested ≡ ([], 0) ∷ (97 ∷ [], 1) ∷ (97 ∷ 98 ∷ [], 2) ∷ [])
    × (matches [] nested ≡ ([], 0) ∷ []) × (matches (99 ∷ []) nested ≡ ([], 0) ∷ [])
pairs_matched = (refl, refl, refl)

-- the longest of them, and none where the empty key isn't stored
longest_matched : (longest_match (97 ∷ 98 ∷ 122 ∷ []) nested ≡ Some (97 ∷ 98 ∷ [], 2))
    × (longest_match (99 ∷ []) nested ≡ Some ([], 0)) × (longest_match (99 ∷ []) stored ≡ None)
longest_matched = (refl, refl, refl)

-- both ends, each with its own key within and without; ends the wrong way round; no ends
within_ends : (between (Included (97 ∷ [])) (Excluded (98 ∷ [])) nested ≡ (97 ∷ [], 1) ∷ (97 ∷ 98 ∷ [], 2) ∷ [])
    × (between (Excluded (97 ∷ [])) (Included (98 ∷ [])) nested ≡ (97 ∷ 98 ∷ [], 2) ∷ (98 ∷ [], 3) ∷ [])
    × (between (Included (97 ∷ [])) (Included (97 ∷ [])) nested ≡ (97 ∷ [], 1) ∷ [])
    × (between (Excluded (97 ∷ [])) (Excluded (97 ∷ [])) nested ≡ [])
    × (between (Included (98 ∷ [])) (Excluded (97 ∷ [])) nested ≡ []) × (between Unbounded Unbounded nested ≡ nested)
    × (between Unbounded (Excluded []) nested ≡ [])
within_ends = (refl, refl, refl, refl, refl, refl, refl)

-- a plain byte is its own text; a backslash and each byte below 32 or above 126 is escaped
texts_of_keys : (key_text [] ≡ []) × (key_text (codes "a key~") ≡ codes "a key~")
    × (key_text (codes "a\\b") ≡ codes "a\\x5cb")
    × (key_text (0 ∷ 31 ∷ 32 ∷ 126 ∷ 127 ∷ 171 ∷ 255 ∷ []) ≡ codes "\\x00\\x1f ~\\x7f\\xab\\xff")
texts_of_keys = (refl, refl, refl, refl)

-- "cat" is a key of both, "cab" of the first alone
joined : join stored first_pair ≡ (cat, (5, 1)) ∷ []
joined = refl

key_of_both : AreKeysOf first_pair stored
key_of_both = keys-from_length first_pair stored refl

key_of_one : ¬ AreKeysOf stored first_pair
key_of_one h = let n : 1 ≡ 2 = length-from_keys stored first_pair h in omega (arith, n)

key_of_neither : ShareNoKey stored nested
key_of_neither = apart-from_length stored nested refl
