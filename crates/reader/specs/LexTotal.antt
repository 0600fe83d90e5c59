-- The next word or mark of a text, from any place on: a total function, right by its type.
use Rattle.std.specs.Prelude.{◌≡◌, ℕ, zero, suc, ◌+◌, ◌-◌, ◌<◌, ◌≤◌, Bool, true, false, ◌≢◌, List, length, ◌==◌, nat_eq, slice_index, refl}
use Rattle.std.proofs.Common.{sym, ap, subst, ◌∙◌, arith, eqb-true, eq-eqb}
use Rattle.std.proofs.Math.Decide.{ℕ_discrete, dec_le}
use Rattle.std.proofs.lemmas.Bool.{both_ways}
use Rattle.std.proofs.Props.{props}
use Rattle.reader.specs.declared.lexer.Token.{Token}
use Rattle.reader.specs.declared.lexer.Token.TheVariants.{Open, Close, Comma, If, Name, Long, Stray, Finish}
use Rattle.reader.specs.declared.lexer.Lexeme.{Lexeme}
use Rattle.reader.specs.Lexemes.{letter, wordly, All, Word, Is, Lexes, Plain}
use Rattle.reader.specs.Limits.{name_bytes}

-- the bytes from i on that pass the test, as many as can be
pub record Run (test : ℕ → Bool) (bs : List ℕ) (i : ℕ) : Type 0 where
  pub end : ℕ
  pub from : i ≤ end
  pub within : end ≤ length bs
  pub all : All test bs i end
  pub stops : end < length bs → test (slice_index bs end) ≡ false

all_more : (test : ℕ → Bool) (bs : List ℕ) (i e : ℕ) → test (slice_index bs i) ≡ true → All test bs (i + 1) e → All test bs i e
all_more test bs i e here all k ge lt = elim (ℕ_discrete k i) [
  | yes is ↦ subst (λ j. test (slice_index bs j) ≡ true) (sym is) here
  | no ne ↦ all k (omega arith) lt
]

run_none : (test : ℕ → Bool) (bs : List ℕ) (i : ℕ) → i ≤ length bs → (i < length bs → test (slice_index bs i) ≡ false) → Run test bs i
run_none test bs i le stops = record { end = i; from = omega arith; within = le; all = λ k ge lt. absurd (omega arith); stops = stops }

run_here : (test : ℕ → Bool) (bs : List ℕ) (i : ℕ) → i < length bs → Run test bs (i + 1) → (b : Bool) → test (slice_index bs i) ≡ b → Run test bs i
run_here test bs i lt r false here = run_none test bs i (omega arith) (λ _. here)
run_here test bs i lt r true here = record { end = r.end; from = omega (arith, r.from); within = r.within; all = all_more test bs i r.end here r.all; stops = r.stops }

run : (test : ℕ → Bool) (bs : List ℕ) (n i : ℕ) → i + n ≡ length bs → Run test bs i
run test bs zero i e = run_none test bs i (omega arith) (λ lt. absurd (omega arith))
run test bs (suc n) i e = run_here test bs i (omega arith) (run test bs n (i + 1) (omega arith)) (test (slice_index bs i)) refl

-- what stands at s
pub record Found (bs : List ℕ) (s : ℕ) : Type 0 where
  pub token : Token
  pub end : ℕ
  pub what : Is bs token s end

module _ (bs : List ℕ) (s : ℕ) where
  -- the kind of a word
  found_word : (e : ℕ) → Word bs s e → Found bs s
  found_word e w = elim (dec_le e (s + name_bytes)) [
    | no long ↦ record { token = Long; end = e; what = (w, omega arith) }
    | yes short ↦ elim (ℕ_discrete e (s + 2)) [
      | no ne ↦ record { token = Name; end = e; what = (w, short, λ i. ne i.0) }
      | yes two ↦ elim (ℕ_discrete (slice_index bs s) 105) [
        | no ne ↦ record { token = Name; end = e; what = (w, short, λ i. ne i.1) }
        | yes i_is ↦ elim (ℕ_discrete (slice_index bs (s + 1)) 102) [
          | no ne ↦ record { token = Name; end = e; what = (w, short, λ i. ne i.2) }
          | yes f_is ↦ record { token = If; end = e; what = (w, (two, i_is, f_is)) }
        ]
      ]
    ]
  ]

  found_plain : Plain bs s → Found bs s
  found_plain p = go (letter (slice_index bs s)) refl
    where
      go : (b : Bool) → letter (slice_index bs s) ≡ b → Found bs s
      go false none = record { token = Stray; end = s; what = (record { within = p.within; no_letter = none; no_space = p.no_space; no_open = p.no_open; no_close = p.no_close; no_comma = p.no_comma }, refl) }
      go true first =
          let r = run wordly bs (length bs - (s + 1)) (s + 1) (omega (arith, p.within)) in
          found_word r.end (record { some = omega (arith, r.from); within = r.within; first = first; all = all_more wordly bs s r.end (rw first) r.all; stops = r.stops })

  found_mark : s < length bs → slice_index bs s ≢ 32 → Found bs s
  found_mark lt space = elim (ℕ_discrete (slice_index bs s) 40) [
    | yes e ↦ record { token = Open; end = s + 1; what = ((lt, e), refl) }
    | no a ↦ elim (ℕ_discrete (slice_index bs s) 41) [
      | yes e ↦ record { token = Close; end = s + 1; what = ((lt, e), refl) }
      | no b ↦ elim (ℕ_discrete (slice_index bs s) 44) [
        | yes e ↦ record { token = Comma; end = s + 1; what = ((lt, e), refl) }
        | no c ↦ found_plain (record { within = lt; no_space = space; no_open = a; no_close = b; no_comma = c })
      ]
    ]
  ]

  found : s ≤ length bs → (s < length bs → slice_index bs s ≢ 32) → Found bs s
  found le space = elim (ℕ_discrete s (length bs)) [
    | yes e ↦ record { token = Finish; end = s; what = (e, refl) }
    | no ne ↦ let lt : s < length bs = omega arith in found_mark lt (space lt)
  ]

-- the next word or mark
pub lexed : (bs : List ℕ) (i : ℕ) → i ≤ length bs → (l : Lexeme) × Lexes bs i l
lexed bs i le =
    let r = run (λ b. nat_eq b 32) bs (length bs - i) i (omega arith) in
    let f = found bs r.end r.within (λ lt e. both_ways (slice_index bs r.end == 32) (r.stops lt) (eq-eqb _ 32 e)) in
    (record { token = f.token; start = r.end; end = f.end }, record { from = r.from; spaces = λ k ge lt. eqb-true _ 32 (r.all k ge lt); what = f.what })

-- a word or mark ends within the text
pub end_within : (bs : List ℕ) (k : Token) (s e : ℕ) → Is bs k s e → e ≤ length bs
end_within bs Open s e i = omega (arith, i.0.0, i.1)
end_within bs Close s e i = omega (arith, i.0.0, i.1)
end_within bs Comma s e i = omega (arith, i.0.0, i.1)
end_within bs If s e i = i.0.within
end_within bs Name s e i = i.0.within
end_within bs Long s e i = i.0.within
end_within bs Stray s e i = omega (arith, i.0.within, i.1)
end_within bs Finish s e i = omega (arith, i.0, i.1)

-- what stands somewhere stands there in one way
pub is_prop : (bs : List ℕ) (k : Token) (s e : ℕ) → IsProp (Is bs k s e)
is_prop bs Open s e = Prim.hlevel props
is_prop bs Close s e = Prim.hlevel props
is_prop bs Comma s e = Prim.hlevel props
is_prop bs If s e = Prim.hlevel props
is_prop bs Name s e = Prim.hlevel props
is_prop bs Long s e = Prim.hlevel props
is_prop bs Stray s e = Prim.hlevel props
is_prop bs Finish s e = Prim.hlevel props

-- the kinds of words and marks by number
abbrev ordinal : Token → ℕ
ordinal Open = 0
ordinal Close = 1
ordinal Comma = 2
ordinal If = 3
ordinal Name = 4
ordinal Long = 5
ordinal Stray = 6
ordinal Finish = 7

abbrev kind : ℕ → Token
kind zero = Open
kind (suc zero) = Close
kind (suc (suc zero)) = Comma
kind (suc (suc (suc zero))) = If
kind (suc (suc (suc (suc zero)))) = Name
kind (suc (suc (suc (suc (suc zero))))) = Long
kind (suc (suc (suc (suc (suc (suc zero)))))) = Stray
kind (suc (suc (suc (suc (suc (suc (suc n))))))) = Finish

kind_ordinal : (k : Token) → kind (ordinal k) ≡ k
kind_ordinal Open = refl
kind_ordinal Close = refl
kind_ordinal Comma = refl
kind_ordinal If = refl
kind_ordinal Name = refl
kind_ordinal Long = refl
kind_ordinal Stray = refl
kind_ordinal Finish = refl

-- whether two kinds are the same
pub token? : (j k : Token) → Dec (j ≡ k)
token? j k = elim (ℕ_discrete (ordinal j) (ordinal k)) [
  | yes e ↦ yes (sym (kind_ordinal j) ∙ ap kind e ∙ kind_ordinal k)
  | no ne ↦ no (λ e. ne (ap ordinal e))
]
