-- A worked example: a run over a small kind of key.
use Rattle.std.specs.Prelude.{ℕ, true, false, ◌&&◌, List, [], ◌∷◌, ◌++◌, ◌==◌}
use Rattle.logic.specs.Charts.{Chart}
use Rattle.reader.specs.Written.{Kind, written, no_body, body, Reading, reads, unread}
use Rattle.law.specs.Calls.{add, seal, reopen, suppose, withdraw, ask, check, look, Answer, done, refused, long, accepted, rejected, told, at_start}
use Rattle.law.specs.Runs.{Event, Run}

-- Keys are bytes. One byte is a rule with no body, two are a rule with one; others are not read.
abbrev pub read_small : List ℕ → Reading ℕ
read_small [] = unread (record { number = 1; place = 0 })
read_small (k ∷ []) = reads (written k 0 no_body)
read_small (k ∷ b ∷ []) = reads (written k 0 (body (written b 1 no_body) no_body))
read_small (k ∷ b ∷ c ∷ cs) = unread (record { number = 2; place = 2 })

abbrev pub small : Kind ℕ
small = record { same = λ x y. x == y; reading = read_small }

-- one release, which carries no key
abbrev pub bare : Chart
bare = record { size = 1; follows = λ w v. (w == 0) && (v == 0); carries = λ w x. false }

-- what happens with `7 if 8` in force
abbrev pub with_one : List Event
with_one =
    record { call = add (7 ∷ 8 ∷ []); answer = done; buffer = [] }
    ∷ record { call = add (7 ∷ 8 ∷ 9 ∷ []); answer = refused (record { number = 2; place = 2 }); buffer = [] }
    ∷ record { call = add (7 ∷ 9 ∷ []); answer = refused (record { number = 11; place = 1 }); buffer = [] }
    ∷ record { call = seal; answer = done; buffer = [] }
    ∷ record { call = ask (7 ∷ []) 10 (9 ∷ 9 ∷ []) false; answer = Answer.no 2; buffer = 0 ∷ 0 ∷ [] }
    ∷ record { call = look (7 ∷ []) bare 0; answer = told true false; buffer = [] }
    ∷ record { call = look (7 ∷ []) bare 1; answer = refused (record { number = 34; place = 0 }); buffer = [] }
    ∷ record { call = reopen; answer = done; buffer = [] } ∷ []

-- and then with `8` too
abbrev pub with_two : List Event
with_two =
    record { call = add (8 ∷ []); answer = done; buffer = [] }
    ∷ record { call = seal; answer = done; buffer = [] }
    ∷ record { call = ask (7 ∷ []) 10 (9 ∷ 9 ∷ 9 ∷ 9 ∷ 9 ∷ []) false; answer = Answer.yes 2 4; buffer = 1 ∷ 1 ∷ 1 ∷ 2 ∷ 0 ∷ [] }
    ∷ record { call = ask (7 ∷ []) 10 (9 ∷ []) false; answer = long 2 4; buffer = 0 ∷ [] }
    ∷ record { call = ask (7 ∷ []) 1 (9 ∷ []) false; answer = Answer.spent 1; buffer = 0 ∷ [] }
    ∷ record { call = ask (7 ∷ []) 0 (9 ∷ []) false; answer = refused (record { number = 32; place = 0 }); buffer = 9 ∷ [] }
    ∷ record { call = check (7 ∷ []) (1 ∷ 1 ∷ 1 ∷ 2 ∷ []) false; answer = accepted; buffer = [] }
    ∷ record { call = check (7 ∷ []) (1 ∷ 1 ∷ 1 ∷ 0 ∷ []) false; answer = rejected 3; buffer = [] }
    ∷ record { call = check (7 ∷ []) (1 ∷ 1 ∷ 2 ∷ []) false; answer = rejected 2; buffer = [] }
    ∷ record { call = withdraw; answer = refused (record { number = 31; place = 0 }); buffer = [] }
    ∷ record { call = suppose (7 ∷ []); answer = done; buffer = [] }
    ∷ record { call = check (7 ∷ []) (1 ∷ 3 ∷ []) false; answer = accepted; buffer = [] }
    ∷ record { call = reopen; answer = done; buffer = [] } ∷ []

-- in a register with two slots
abbrev pub ExampleRuns : Type 0
ExampleRuns = Run small 2 at_start (with_one ++ with_two)
