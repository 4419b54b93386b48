use Rattle.std.proofs.Common.{[], ◌∷◌, subst}
use Rattle.brd_ledgers.specs.Shares.{IsOwn}
use Rattle.brd_ledgers.proofs.BookLemmas.{first_own}
use Rattle.brd_ledgers.proofs.books.Books.len.Goals as goal

pub returns-clause-first : goal.returns-clause-first
returns-clause-first g c =
    let books = c.self.inside in
    let counts = books.first ∷ books.second ∷ books.third ∷ books.fourth ∷ books.fifth ∷ books.sixth ∷ books.seventh ∷ books.eighth ∷ [] in
    λ processors cpu first. subst (λ books. IsOwn processors books cpu) c.self.view_is (first_own processors counts cpu first)
