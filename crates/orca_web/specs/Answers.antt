-- What is answered where something is refused.
use Rattle.std.specs.Prelude.{ℕ, List, [], ◌++◌, length, codes, decimal}
use Rattle.orca_web.specs.declared.judge.Refusal.{Refusal}
use Rattle.orca_web.specs.declared.judge.Refusal.TheVariants as refusal

-- an answer of this status that tells a sentence
abbrev pub sentence_answer : List ℕ → List ℕ → List ℕ
sentence_answer status sentence =
    codes "HTTP/1.1 " ++ status ++ codes "\r\nConnection: close\r\nContent-Type: text/plain\r\n"
    ++ codes "Content-Length: " ++ decimal (length sentence) ++ codes "\r\n\r\n" ++ sentence

-- the answer to each refusal
abbrev pub answer_to : Refusal → List ℕ
answer_to refusal.Silent = []
answer_to refusal.BadRequest =
    sentence_answer (codes "400 Bad Request")
    (codes "This is no request that orca knows.\n")
answer_to refusal.Forbidden =
    sentence_answer (codes "403 Forbidden")
    (codes "The address is not this machine's, or its key is not that of the piece.\n")
answer_to refusal.NotFound =
    sentence_answer (codes "404 Not Found")
    (codes "There is one page here: /\n")
answer_to refusal.MethodNotAllowed =
    sentence_answer (codes "405 Method Not Allowed\r\nAllow: GET")
    (codes "There is one method here: GET\n")
answer_to refusal.Timeout =
    sentence_answer (codes "408 Request Timeout")
    (codes "The request did not come in time.\n")
answer_to refusal.TooLong =
    sentence_answer (codes "431 Request Header Fields Too Large")
    (codes "The request is too long.\n")
answer_to refusal.Full =
    sentence_answer (codes "503 Service Unavailable")
    (codes "All seats are taken.\n")
