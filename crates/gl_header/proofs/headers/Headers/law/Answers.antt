use Rattle.gl_header.proofs.Words.{AreDistinct, AreHeaders, subst}
use Rattle.gl_header.proofs.AtPlace.{alone_by_key, entries_are}
use Rattle.gl_header.proofs.ByKey.{are_headers, distinct}
use Rattle.gl_header.proofs.headers.Headers.law.Goals as goal

pub returns-clause-headers : goal.returns-clause-headers
returns-clause-headers c =
    subst AreHeaders (entries_are c.self.view_is) (are_headers c.self.inside.places.items c.self.invariant.places)

pub returns-clause-distinct : goal.returns-clause-distinct
returns-clause-distinct c =
    subst AreDistinct (entries_are c.self.view_is) (distinct c.self.inside.places.items)

pub returns-clause-by_key : goal.returns-clause-by_key
returns-clause-by_key c = record {
  alone = λ n h has. alone_by_key c.self.inside.places.items c.self.invariant.places c.args.self.now.entries
      (entries_are c.self.view_is) n h has;
}
