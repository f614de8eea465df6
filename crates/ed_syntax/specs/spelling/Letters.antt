-- The letters that name commands, forms and flags (XBD 6.1, "Portable Character Set"; XCU ed, "Commands in ed").
use Rattle.std.specs.Prelude.{ℕ}

-- `E`
abbrev pub capital_e : ℕ
capital_e = 69

-- `H`
abbrev pub capital_h : ℕ
capital_h = 72

-- `P`
abbrev pub capital_p : ℕ
capital_p = 80

-- `Q`
abbrev pub capital_q : ℕ
capital_q = 81

-- `a`
abbrev pub letter_a : ℕ
letter_a = 97

-- `c`
abbrev pub letter_c : ℕ
letter_c = 99

-- `d`
abbrev pub letter_d : ℕ
letter_d = 100

-- `e`
abbrev pub letter_e : ℕ
letter_e = 101

-- `f`
abbrev pub letter_f : ℕ
letter_f = 102

-- `g`
abbrev pub letter_g : ℕ
letter_g = 103

-- `h`
abbrev pub letter_h : ℕ
letter_h = 104

-- `i`
abbrev pub letter_i : ℕ
letter_i = 105

-- `j`
abbrev pub letter_j : ℕ
letter_j = 106

-- `k`
abbrev pub letter_k : ℕ
letter_k = 107

-- `l`
abbrev pub letter_l : ℕ
letter_l = 108

-- `m`
abbrev pub letter_m : ℕ
letter_m = 109

-- `n`
abbrev pub letter_n : ℕ
letter_n = 110

-- `p`
abbrev pub letter_p : ℕ
letter_p = 112

-- `q`
abbrev pub letter_q : ℕ
letter_q = 113

-- `r`
abbrev pub letter_r : ℕ
letter_r = 114

-- `s`
abbrev pub letter_s : ℕ
letter_s = 115

-- `t`
abbrev pub letter_t : ℕ
letter_t = 116

-- `u`
abbrev pub letter_u : ℕ
letter_u = 117

-- `v`
abbrev pub letter_v : ℕ
letter_v = 118

-- `w`
abbrev pub letter_w : ℕ
letter_w = 119
