-- Notices in C's memory.
use Rattle.std.specs.Prelude.{◌≡◌, ℕ, length, map, take}
use Rattle.gl_model.specs.declared.txn.TxnId.{TxnId}
use Rattle.gl_model.specs.declared.answers.Notice.{Notice as TableNotice}
use Rattle.gl_model.specs.declared.answers.Notice.TheVariants as notice
use Rattle.gl_model.specs.Tellings.{Told}
use Rattle.gl_c.specs.declared.answers.notices.Notice.{Notice}
use Rattle.gl_c.specs.declared.answers.notices.Notices.{Notices}
use Rattle.gl_c.specs.Names.{node_of, txn_of}
use Rattle.gl_c.specs.Numbers.{mode_number}
use Rattle.gl_c.specs.answers.Replies.{nobody}

-- a notice without a node and a mode
abbrev pub bare_notice : TxnId → ℕ → Notice
bare_notice t kind = record { txn = txn_of t; node = nobody; kind = kind; mode = 0 }

-- a notice, with the number of its kind
abbrev pub notice_of : TxnId × TableNotice → Notice
notice_of (t, notice.Granted n m) = record { txn = txn_of t; node = node_of n; kind = 1; mode = mode_number m }
notice_of (t, notice.Victim) = bare_notice t 2
notice_of (t, notice.Moved) = bare_notice t 3
notice_of (t, notice.Gone) = bare_notice t 4

-- the places up to the count have these notices, in their order
pub record Tells (notices : Notices) (told : Told) : Type 0 where
  pub counted : notices.count ≡ length told
  pub listed : take notices.count notices.at ≡ map notice_of told
