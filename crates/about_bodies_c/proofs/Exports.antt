-- Each exported contract about files says what the theorems speak of: where one in crates/jagwelu is changed, this is refused.
use Rattle.about_bodies_c.specs.Exports.{FilesSay, FilesAsk}

pub files-say : FilesSay
files-say = record {
  read = λ κs name body r e said. said;
  read_for = λ κs plant name body r e said. said;
  located = λ κs format body index r e said. said;
  copied = λ κs format body out r w said. said;
  written = λ κs format plant ident start next rates flag out r w said. said;
  errors = λ κs file r e said. said;
}

pub files-ask : FilesAsk
files-ask = record {
  read = λ κs a. tt;
  read_for = λ κs a. tt;
  located = λ κs a. tt;
  copied = λ κs a. tt;
  written = λ κs a. tt;
  errors = λ κs a. tt;
}
