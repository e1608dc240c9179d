-- What a call answers to C: replies, sets of slots, and notices.
pub mod Finding
pub mod Notices
pub mod Replies
