mod Dismissed
mod Steps
