-- Worked lines of a certificate's text.
use Rattle.std.specs.Prelude.{◌≡◌, refl, [], ◌∷◌, ◌++◌, map, pos, negsuc, true, false, Some, None, codes}
use Rattle.std.specs.Fmt.{digits}
use Rattle.ed_rules.specs.facts.Facts.{no_facts}
use Rattle.cert_check.specs.declared.certificate.Version.TheVariants.{One, Two, Three}
use Rattle.cert_check.specs.text.Text.{line_text, bound_words, bounds_words, letters_words, sure_letters, choices_line, replacements_line, changed_line, undo_line, bounds_line, version_line, path_line, texts_line, matched_lines, told_lines, chains_lines}

-- a bound, by the places of its names; none is left out, and so is 0 of a name with itself
a-bound : bound_words 0 1 (Some (negsuc 0)) ∷ bound_words 31 2 (Some (pos 12)) ∷ bound_words 6 6 (Some (negsuc 2)) ∷ bound_words 6 6 (Some (pos 0)) ∷ bound_words 1 0 None ∷ []
    ≡ (codes "0-.<=-1" ∷ []) ∷ (codes "z-$<=12" ∷ []) ∷ (codes "a-a<=-3" ∷ []) ∷ [] ∷ [] ∷ []
unfolding digits
a-bound = refl

-- bounds from a place on: the end of the first row, and the second row's begin
the-bounds : line_text (codes "zone" ∷ bounds_words 30 (Some (pos 1) ∷ None ∷ Some (pos 2) ∷ Some (pos 0) ∷ Some (pos 3) ∷ [])) ≡ codes "zone 0-y<=1 .-0<=2 .-$<=3"
unfolding digits
the-bounds = refl

the-letters : line_text (codes "marks" ∷ letters_words (sure_letters 97 (false ∷ true ∷ false ∷ true ∷ []))) ≡ codes "marks bd"
the-letters = refl

no-letters : line_text (codes "marks" ∷ letters_words (sure_letters 97 (false ∷ false ∷ []))) ≡ codes "marks"
no-letters = refl

some-choices : line_text (choices_line (codes "patterns") (None ∷ Some [] ∷ Some (codes "a b%" ++ 10 ∷ 255 ∷ []) ∷ [])) ≡ codes "patterns - = =a%20b%25%0a%ff"
some-choices = refl

the-possible : map line_text (
    replacements_line (record { none = true; plain = false; split = true }) ∷ changed_line (record { no = false; yes = true })
    ∷ undo_line (record { nothing = true; same = true; was = None })
    ∷ undo_line (record { nothing = false; same = false; was = Some (record { zone = []; marks = []; facts = no_facts }) }) ∷ [])
    ≡ codes "replacements none split" ∷ codes "changed yes" ∷ codes "undo nothing same" ∷ codes "undo was" ∷ []
the-possible = refl

the-rest : map line_text (version_line One ∷ version_line Two ∷ version_line Three ∷ path_line (Some (codes "F")) ∷ path_line None ∷ bounds_line (codes "start") 1 (Some 3) ∷ bounds_line (codes "final") 0 None
    ∷ texts_line (codes "writes") (codes "F" ∷ codes "G" ∷ []) ∷ texts_line (codes "writes") [] ∷ [])
    ≡ codes "ed-certificate 1" ∷ codes "ed-certificate 2" ∷ codes "ed-certificate 3" ∷ codes "path =F" ∷ codes "path -" ∷ codes "start 1 3" ∷ codes "final 0 any" ∷ codes "writes =F =G" ∷ codes "writes" ∷ []
unfolding digits
the-rest = refl

-- chains and facts, which the third version alone has
the-chains : map line_text (
    chains_lines Two [] ++ chains_lines Three [] ++ chains_lines Three (record { text = codes "/a/; 3"; landmarks = [] } ∷ record { text = codes "only /b/"; landmarks = [] } ∷ []))
    ≡ codes "at" ∷ codes "at =/a/;%203 =only%20/b/" ∷ []
the-chains = refl

the-told : map line_text (
    told_lines Two (codes "lines") (codes "clear") no_facts ++ told_lines Three (codes "lines") (codes "clear") no_facts
    ++ told_lines Three (codes "old-lines") (codes "old-clear") (record {
      lines = record { name = 1; pattern = codes "a b"; matches = true } ∷ record { name = 31; pattern = codes "c"; matches = false } ∷ [];
      clear = record { after = 0; before = 1; pattern = codes "a" } ∷ record { after = 31; before = 32; pattern = [] } ∷ [];
    }))
    ≡ codes "lines" ∷ codes "clear" ∷ codes "old-lines .+=a%20b z-=c" ∷ codes "old-clear 0-.=a z-$+=" ∷ []
the-told = refl

-- what some line matches; none at all is the key alone
the-matched : map line_text (
    matched_lines One (codes "has") [] ++ matched_lines Two (codes "has") (codes "fo o" ∷ codes "foo" ∷ []) ++ matched_lines Two (codes "old-has") [])
    ≡ codes "has =fo%20o =foo" ∷ codes "old-has" ∷ []
the-matched = refl
