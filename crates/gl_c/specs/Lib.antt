pub mod Boards
pub mod Names
pub mod Numbers
pub mod answers
pub mod locks
pub mod managers
pub mod questions
pub mod watchers
